-- What the stores of logical flows hold, unit by unit.
use Rattle.std.specs.Prelude.{◌↔◌, ◌&&◌, Bool, List}
use Rattle.std.specs.declared.cmp.Ordering.{Ordering}
use Rattle.ovn_base.specs.contracts.name.NamePartialEq.TheImpl as of_name
use Rattle.ovn_base.specs.declared.name.Name.{Name}
use Rattle.ovn_base.specs.lists.Among.{Among}
use Rattle.flow_refs.specs.Origins.{flows_of}
use Rattle.flow_refs.specs.Store.{Store}
use Rattle.nb_records.specs.Network.{Network}
use Rattle.logical_flows.specs.contracts.flow.LFlowPartialEq.TheImpl as of_flow
use Rattle.logical_flows.specs.contracts.unit.UnitIdOrd.TheImpl as of_unit
use Rattle.logical_flows.specs.declared.flow.LFlow.{LFlow}
use Rattle.logical_flows.specs.declared.unit.UnitId.{UnitId}
use Rattle.stage_rows.specs.Units.{rows_of, pairs_of_unit}

abbrev pub same_flow : LFlow → LFlow → Bool
same_flow = of_flow.ghosts.eq

-- pairs of flows and datapaths
abbrev pub same_pair : LFlow × Name → LFlow × Name → Bool
same_pair p q = same_flow p.0 q.0 && of_name.ghosts.eq p.1 q.1

abbrev pub unit_order : UnitId → UnitId → Ordering
unit_order = of_unit.ghosts.cmp

-- the rows of each unit, and those with their datapaths
pub record North : Type 0 where
  pub flows : Store LFlow UnitId
  pub pairs : Store (LFlow × Name) UnitId

-- each unit has the same
abbrev pub HaveSame : {F : Type 0} → (UnitId → List F) → (UnitId → List F) → Type 0
HaveSame {F} some others = (u : UnitId) (f : F) → Among f (some u) ↔ Among f (others u)

-- what is held is what the units of the network have
pub record StandsFor (net : Network) (north : North) : Type 0 where
  pub rows : HaveSame (flows_of unit_order north.flows.origins) (rows_of net)
  pub pairs : HaveSame (flows_of unit_order north.pairs.origins) (pairs_of_unit net)
