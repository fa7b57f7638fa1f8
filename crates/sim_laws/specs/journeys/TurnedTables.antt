-- How the flows of the chassis change where the network turns.
use Rattle.std.specs.Prelude.{◌≡◌, ◌↔◌, ◌⊎◌, List, Some}
use Rattle.std.specs.Map.{keys_of}
use Rattle.chassis_sim.specs.State.{at_name}
use Rattle.chassis_sim.specs.declared.change.SimChange.{SimChange}
use Rattle.flow_table.specs.declared.flow.Flow.{Flow}
use Rattle.ovn_base.specs.declared.delta.Delta.{Delta}
use Rattle.ovn_base.specs.declared.name.Name.{Name}
use Rattle.ovn_base.specs.lists.Among.{Among}
use Rattle.ovn_base.specs.lists.Once.{EachOnce}
use Rattle.physical_flows.specs.ChassisFlows.{AreExactly}

-- The delta leads from the flows before to those after: just what is new comes, and what was there stays or goes; each flow once.
pub record IsFlowChange (Before After : Flow → Type 0) (delta : Delta Flow) : Type 0 where
  pub come : (f : Flow) → Among f delta.added ↔ ((¬ Before f) × After f)
  pub go : (f : Flow) → Among f delta.removed → Before f × ¬ After f
  pub rest : (f : Flow) → Before f → After f ⊎ Among f delta.removed
  pub come_once : EachOnce delta.added
  pub go_once : EachOnce delta.removed

-- the chassis is told how its flows change
pub record HasDelta (Before After : Flow → Type 0) (tables : List (Name × Delta Flow)) (c : Name) : Type 0 where
  pub delta : Delta Flow
  pub is : at_name tables c ≡ Some delta
  pub change : IsFlowChange Before After delta

module _ {T : Type 0} (flows_of : T → List Flow) where
  -- The change turns these chassis, with their flows before, into those, with their flows after: each that stays is told how they change, each
  -- that goes is removed, and each that comes is added with exactly its flows; and nobody else is told anything.
  pub record IsTurnOfTables (chassis next : List Name) (Before After : Name → Flow → Type 0) (change : SimChange T) : Type 0 where
    pub stay : (c : Name) → Among c chassis → Among c next → HasDelta (Before c) (After c) change.tables c
    pub told : (c : Name) → Among c (keys_of change.tables) → Among c chassis × Among c next
    pub told_once : EachOnce (keys_of change.tables)
    pub go : (c : Name) → Among c change.removed ↔ (Among c chassis × ¬ Among c next)
    pub come : (c : Name) → Among c next → Among c chassis ⊎ Among c (keys_of change.added)
    pub added : (e : Name × T) → Among e change.added → Among e.0 next × (¬ Among e.0 chassis) × AreExactly (After e.0) (flows_of e.1)
