-- What is planned on the stores of logical flows, before it is applied.
use Rattle.std.specs.Prelude.{◌≡◌, ◌↔◌, List}
use Rattle.ovn_base.specs.declared.delta.Delta.{Delta}
use Rattle.ovn_base.specs.declared.name.Name.{Name}
use Rattle.ovn_base.specs.lists.Among.{Among}
use Rattle.ovn_base.specs.lists.Once.{EachOnce}
use Rattle.flow_refs.specs.Origins.{flows_after}
use Rattle.flow_refs.specs.Store.{Prepared, IsPreparedFor}
use Rattle.nb_records.specs.Network.{Network}
use Rattle.logical_flows.specs.declared.flow.LFlow.{LFlow}
use Rattle.logical_flows.specs.declared.unit.UnitId.{UnitId}
use Rattle.stage_rows.specs.Units.{rows_of, pairs_of_unit, IsPairedRow, IsLogicalFlow}
use Rattle.northd_core.specs.Held.{North, HaveSame, StandsFor, same_flow, same_pair, unit_order}

-- what the units shall have: their rows, and those with their datapaths
pub record Planned : Type 0 where
  pub flows : Prepared LFlow UnitId
  pub pairs : Prepared (LFlow × Name) UnitId

-- it was prepared for what is held
pub record IsPlannedOn (north : North) (plan : Planned) : Type 0 where
  pub flows : IsPreparedFor same_flow unit_order north.flows plan.flows
  pub pairs : IsPreparedFor same_pair unit_order north.pairs plan.pairs

-- what comes is exactly what one network hasn't and the next has, what goes the other way round, each once
pub record IsChange {X : Type 0} (Before After : X → Type 0) (delta : Delta X) : Type 0 where
  pub come : (x : X) → Among x delta.added ↔ ((¬ Before x) × After x)
  pub go : (x : X) → Among x delta.removed ↔ (Before x × (¬ After x))
  pub come_once : EachOnce delta.added
  pub go_once : EachOnce delta.removed

-- a pair of the network
abbrev pub IsPairOf : Network → LFlow × Name → Type 0
IsPairOf net p = IsPairedRow net p.0 p.1

-- the plan leads from what is held to what the next network has, and tells the pairs and the flows that come and go
pub record IsNorthPlan (before after : Network) (north : North) (plan : Planned) : Type 0 where
  pub ready : IsPlannedOn north plan
  pub rows : HaveSame (flows_after unit_order north.flows.origins plan.flows.changes) (rows_of after)
  pub rows_paired : HaveSame (flows_after unit_order north.pairs.origins plan.pairs.changes) (pairs_of_unit after)
  pub flows : IsChange (IsLogicalFlow before) (IsLogicalFlow after) plan.flows.delta
  pub pairs : IsChange (IsPairOf before) (IsPairOf after) plan.pairs.delta

-- What is held is left as it was: it stands for what it stood for, what was planned on it may still be applied, and it shows the same
-- in the same order.
pub record IsLeft (old new : North) : Type 0 where
  pub stands : (net : Network) → StandsFor net old → StandsFor net new
  pub ready : (plan : Planned) → IsPlannedOn old plan → IsPlannedOn new plan
  pub planned : (before after : Network) (plan : Planned) → IsNorthPlan before after old plan → IsNorthPlan before after new plan
  pub flows_shown : new.flows.counts ≡ old.flows.counts
  pub pairs_shown : new.pairs.counts ≡ old.pairs.counts

-- those, each once
pub record ListsEach {X : Type 0} (Is : X → Type 0) (list : List X) : Type 0 where
  pub those : (x : X) → Among x list ↔ Is x
  pub once : EachOnce list
