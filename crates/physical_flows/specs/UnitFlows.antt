-- The flows of a chassis as a counted store has them, unit by unit, and how they change.
use Rattle.std.specs.Prelude.{◌≡◌, ◌↔◌, ◌++◌, Bool, List}
use Rattle.std.specs.List.{AllByRecursion}
use Rattle.std.specs.declared.cmp.Ordering.{Ordering}
use Rattle.ovn_base.specs.declared.delta.Delta.{Delta}
use Rattle.ovn_base.specs.lists.Among.{Among}
use Rattle.ovn_base.specs.lists.Once.{EachOnce}
use Rattle.flow_refs.specs.Origins.{flows_of, flows_after}
use Rattle.flow_refs.specs.Store.{Store, Prepared, IsPreparedFor}
use Rattle.flow_table.specs.contracts.flow.FlowPartialEq.TheImpl as of_flow
use Rattle.flow_table.specs.declared.flow.Flow.{Flow}
use Rattle.physical_flows.specs.contracts.unit.FlowUnitOrd.TheImpl as of_unit
use Rattle.physical_flows.specs.declared.unit.FlowUnit.{FlowUnit}
use Rattle.physical_flows.specs.Stages.{Basis}
use Rattle.physical_flows.specs.Units.{HasRow, rows_here}

abbrev pub same_flow : Flow → Flow → Bool
same_flow = of_flow.ghosts.eq

abbrev pub unit_order : FlowUnit → FlowUnit → Ordering
unit_order = of_unit.ghosts.cmp

-- the store of the flows of each unit
abbrev pub UnitStore : Type 0
UnitStore = Store Flow FlowUnit

-- the flows of a unit in it
abbrev pub rows_held : UnitStore → FlowUnit → List Flow
rows_held held = flows_of unit_order held.origins

-- each unit has exactly the flows of its rows
abbrev pub HaveRows : (FlowUnit → List Flow) → (FlowUnit → List Flow) → Type 0
HaveRows rows held = (u : FlowUnit) (f : Flow) → Among f (held u) ↔ Among f (rows u)

-- each unit's rows are those that are given, and behind them the ones that follow from who is at home
abbrev pub AreGiven : Basis → (FlowUnit → List Flow) → List (FlowUnit × List Flow) → Type 0
AreGiven b rows given = AllByRecursion (λ e. rows e.0 ≡ e.1 ++ rows_here b e.0) given

-- what comes is exactly what was a row of no unit and is one of some, what goes the other way round, each flow once
pub record IsRowChange (before after : FlowUnit → List Flow) (delta : Delta Flow) : Type 0 where
  pub come : (f : Flow) → Among f delta.added ↔ ((¬ HasRow before f) × HasRow after f)
  pub go : (f : Flow) → Among f delta.removed ↔ (HasRow before f × (¬ HasRow after f))
  pub come_once : EachOnce delta.added
  pub go_once : EachOnce delta.removed

-- the patch was prepared for what is held, and leads from these rows to those
pub record IsTablePatch (before after : FlowUnit → List Flow) (held : UnitStore) (patch : Prepared Flow FlowUnit) : Type 0 where
  pub ready : IsPreparedFor same_flow unit_order held patch
  pub leads : HaveRows after (flows_after unit_order held.origins patch.changes)
  pub change : IsRowChange before after patch.delta

-- what was prepared for the old store may be applied to the new one, and leads from the same rows to the same
abbrev pub StayPrepared : UnitStore → UnitStore → Type 0
StayPrepared old new = (before after : FlowUnit → List Flow) (patch : Prepared Flow FlowUnit) → IsTablePatch before after old patch → IsTablePatch before after new patch
