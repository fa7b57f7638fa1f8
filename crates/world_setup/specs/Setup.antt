-- The flows of each chassis, and what is prepared for them.
use Rattle.std.specs.Prelude.{◌≡◌, ◌++◌, ◌≤◌, ◌⊎◌, ℕ, List, [], ◌∷◌, Option, None, Some, IsSome}
use Rattle.std.specs.BTreeSet.{insert_key}
use Rattle.std.specs.Cmp.Lexicographic.{slice_cmp}
use Rattle.std.specs.Map.{keys_of}
use Rattle.std.specs.Option.{option_map}
use Rattle.std.specs.Ordering.{nat_cmp}
use Rattle.ovn_base.specs.declared.delta.Delta.{Delta}
use Rattle.ovn_base.specs.declared.name.Name.{Name}
use Rattle.ovn_base.specs.lists.Among.{Among}
use Rattle.ovn_base.specs.lists.Once.{EachOnce}
use Rattle.chassis_sim.specs.State.{at_name}
use Rattle.chassis_sim.specs.declared.change.SimChange.{SimChange}
use Rattle.flow_refs.specs.Store.{Prepared, Store, IsPreparedFor}
use Rattle.flow_table.specs.declared.flow.Flow.{Flow}
use Rattle.logical_flows.specs.declared.unit.UnitId.{UnitId}
use Rattle.nb_records.specs.declared.switch.SwitchPort.{SwitchPort}
use Rattle.northd_core.specs.Lowering.{HaveLowered, IsLoweredIn, IsLoweredPlan, Lowering}
use Rattle.northd_core.specs.Plans.{IsChange}
use Rattle.physical_flows.specs.Around.{AroundFlow, around_rows}
use Rattle.physical_flows.specs.ChassisFlows.{AreExactly}
use Rattle.physical_flows.specs.UnitFlows.{UnitStore, HaveRows, IsTablePatch, rows_held, same_flow, unit_order}
use Rattle.physical_flows.specs.Stages.{Basis}
use Rattle.physical_flows.specs.Units.{ChangeOnly}
use Rattle.physical_flows.specs.declared.unit.FlowUnit.{FlowUnit}
use Rattle.physical_flows.specs.declared.unit.FlowUnit.TheVariants as unit
use Rattle.tuple_space.specs.Bunches.{flows_in}
use Rattle.tuple_space.specs.declared.space.TupleSpace.{TupleSpace}
use Rattle.world_setup.specs.Ground.{GroundView, basis_in, ground_after, IsChangeOf}
use Rattle.world_setup.specs.declared.setup.SetupPatch.{SetupPatch}

-- the ground, the flows that every chassis has of the network, those of each chassis around the pipelines, and for how many more chassis there is room
pub record SetupView : Type 0 where
  pub ground : GroundView
  pub lowered : Store Flow UnitId
  pub stores : List (Name × UnitStore)
  pub room : ℕ

-- ---- what every chassis has

-- what rows are lowered with
abbrev pub lowering_in : GroundView → Lowering
lowering_in g = record { net = g.config.net; keys = g.keys }

-- the flow is one of a chassis: a lowered row of the network, or one of the tables around the pipelines
abbrev pub IsFlowBy : Basis → Flow → Type 0
IsFlowBy b f = IsLoweredIn (record { net = b.net; keys = b.keys }) f ⊎ AroundFlow b f

abbrev pub IsFlowOn : GroundView → Name → Flow → Type 0
IsFlowOn g c f = IsFlowBy (basis_in g c) f

-- ---- what each has around the pipelines

-- the rows of a chassis' units
abbrev pub rows_on : GroundView → Name → FlowUnit → List Flow
rows_on g c = around_rows (basis_in g c)

-- the chassis has a store, in which each unit has its rows
pub record HasStore (g : GroundView) (stores : List (Name × UnitStore)) (c : Name) : Type 0 where
  pub store : UnitStore
  pub is : at_name stores c ≡ Some store
  pub rows : HaveRows (rows_on g c) (rows_held store)

abbrev pub HaveStores : GroundView → List (Name × UnitStore) → Type 0
HaveStores g stores = (c : Name) → Among c g.config.chassis → HasStore g stores c

-- the chassis' store is ready for a patch that leads from one ground to the other, or is there already
abbrev pub IsReadyOrDone : GroundView → GroundView → Name → Option (Prepared Flow FlowUnit) → UnitStore → Type 0
IsReadyOrDone before after c (Some patch) store = IsTablePatch (rows_on before c) (rows_on after c) store patch
IsReadyOrDone before after c None store = HaveRows (rows_on after c) (rows_held store)

pub record IsOnTheWay (before after : GroundView) (patches : List (Name × Prepared Flow FlowUnit)) (stores : List (Name × UnitStore)) (c : Name) : Type 0 where
  pub store : UnitStore
  pub is : at_name stores c ≡ Some store
  pub stands : IsReadyOrDone before after c (at_name patches c) store

-- the same in parts: where there is a store, and a patch for it
abbrev pub IsPatchAt : (FlowUnit → List Flow) → (FlowUnit → List Flow) → Option UnitStore → Option (Prepared Flow FlowUnit) → Type 0
IsPatchAt before after (Some store) (Some patch) = IsTablePatch before after store patch
IsPatchAt before after (Some store) None = ⊥
IsPatchAt before after None patch = ⊥

abbrev pub IsReadyAt : Prepared Flow FlowUnit → Option UnitStore → Type 0
IsReadyAt patch (Some store) = IsPreparedFor same_flow unit_order store patch
IsReadyAt patch None = Unit {0}

abbrev pub HasRowsAt : (FlowUnit → List Flow) → Option UnitStore → Type 0
HasRowsAt rows (Some store) = HaveRows rows (rows_held store)
HasRowsAt rows None = ⊥

-- the rows that the units of a store have, if it is there
abbrev pub rows_at : Option UnitStore → Option (FlowUnit → List Flow)
rows_at store = option_map (λ s. rows_held s) store

-- each chassis has its patch, made for what its store holds
pub record ArePatches (before after : GroundView) (stores : List (Name × UnitStore)) (patches : List (Name × Prepared Flow FlowUnit)) : Type 0 where
  pub chassis : keys_of patches ≡ before.config.chassis
  pub once : EachOnce (keys_of patches)
  pub each : (c : Name) → Among c before.config.chassis → IsOnTheWay before after patches stores c

-- who comes has its flows already
abbrev pub HasCome : GroundView → Option (Name × UnitStore) → Name → Type 0
HasCome after come c = (store : UnitStore) × (come ≡ Some (c, store)) × HaveRows (rows_on after c) (rows_held store)

-- what is held of flows is that of the ground
pub record StandsForGround (g : GroundView) (flows : Store Flow UnitId) (around : List (Name × UnitStore)) : Type 0 where
  pub lowered : HaveLowered (lowering_in g) flows
  pub stores : HaveStores g around

-- ---- a patch

-- what every chassis has is ready for its plan, or is there already
abbrev pub IsLoweredOrDone : GroundView → GroundView → Store Flow UnitId → Option (Prepared Flow UnitId) → Type 0
IsLoweredOrDone before after lowered (Some plan) = IsLoweredPlan (lowering_in before) (lowering_in after) lowered plan
IsLoweredOrDone before after lowered None = lowering_in after ≡ lowering_in before

-- the patch was prepared for this setup
pub record IsSetupPatch (s : SetupView) (patch : SetupPatch) : Type 0 where
  pub change : IsChangeOf s.ground patch.change
  pub lowered : IsLoweredOrDone s.ground (ground_after patch.change s.ground) s.lowered patch.lowered
  pub patches : ArePatches s.ground (ground_after patch.change s.ground) s.stores patch.patches
  -- a chassis was there, or comes
  pub chassis : (c : Name) → Among c (ground_after patch.change s.ground).config.chassis → Among c s.ground.config.chassis ⊎ HasCome (ground_after patch.change s.ground) patch.come c
  pub new : (c : Name) (store : UnitStore) → patch.come ≡ Some (c, store) → HaveRows (rows_on (ground_after patch.change s.ground) c) (rows_held store)
  pub room : IsSome patch.come → 1 ≤ s.room

-- ---- what the simulated chassis are told

-- one delta and then the other
abbrev pub both_deltas : Delta Flow → Delta Flow → Delta Flow
both_deltas one other = record { added = one.added ++ other.added; removed = one.removed ++ other.removed }

-- what is planned for every chassis
abbrev pub every_delta : Option (Prepared Flow UnitId) → Delta Flow
every_delta (Some plan) = plan.delta
every_delta None = record { added = []; removed = [] }

-- the delta of a chassis is the difference of its flows
pub record HasDelta (before after : GroundView) (tables : List (Name × Delta Flow)) (c : Name) : Type 0 where
  pub delta : Delta Flow
  pub is : at_name tables c ≡ Some delta
  pub change : IsChange (IsFlowOn before c) (IsFlowOn after c) delta

-- the change of the simulated chassis is that of their flows; who comes has all of its own
pub record IsTurnOfTables (before after : GroundView) (change : SimChange TupleSpace) : Type 0 where
  pub removed : change.removed ≡ []
  pub tables : keys_of change.tables ≡ before.config.chassis
  pub deltas : (c : Name) → Among c before.config.chassis → HasDelta before after change.tables c
  pub chassis : (c : Name) → Among c after.config.chassis → Among c before.config.chassis ⊎ Among c (keys_of change.added)
  pub stay : (c : Name) → Among c before.config.chassis → Among c after.config.chassis
  pub added : (e : Name × TupleSpace) → Among e change.added → Among e.0 after.config.chassis × (¬ Among e.0 before.config.chassis) × AreExactly (IsFlowOn after e.0) (flows_in e.1.bunches)

-- the chassis that were there, and one more if one comes, who is new
abbrev pub ComesOver : List Name → Option Name → List Name → Type 0
ComesOver before None after = after ≡ before
ComesOver before (Some c) after = (¬ Among c before) × (after ≡ insert_key (slice_cmp nat_cmp) before c)

-- ---- what tables follow from

-- on each chassis that was there, only these units' rows change; each stands once
pub record AreTouched (before after : GroundView) (units : List FlowUnit) : Type 0 where
  pub once : EachOnce units
  pub only : (c : Name) → Among c before.config.chassis → ChangeOnly units (rows_on before c) (rows_on after c)

-- the units whose rows follow from where a port is bound: its switch and itself
abbrev pub units_of : Option SwitchPort → Name → List FlowUnit
units_of (Some port) q = unit.Switch port.switch ∷ unit.Port q ∷ []
units_of None q = unit.Port q ∷ []
