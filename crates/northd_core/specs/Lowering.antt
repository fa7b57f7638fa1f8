-- The flows to which the rows of each unit are lowered, and what is planned on a store of them.
use Rattle.std.specs.Prelude.{◌≡◌, ◌↔◌, ◌≤◌, Bool, true, List, flat_map, IsSome}
use Rattle.std.specs.List.{AllByRecursion}
use Rattle.ovn_base.specs.declared.limits.TheConstants.{MAX_WIDTH}
use Rattle.ovn_base.specs.declared.name.Name.{Name}
use Rattle.ovn_base.specs.lists.Among.{Among}
use Rattle.ovn_base.specs.names.ByName.{at}
use Rattle.match_cubes.specs.Points.{members_of}
use Rattle.match_cubes.specs.Suited.{are_suited}
use Rattle.match_cubes.specs.Width.{width_of}
use Rattle.match_cubes.specs.declared.sets.Sets.{Sets}
use Rattle.flow_refs.specs.Origins.{flows_of, flows_after}
use Rattle.flow_refs.specs.Store.{Store, Prepared, IsPreparedFor}
use Rattle.flow_table.specs.contracts.flow.FlowPartialEq.TheImpl as of_lowered
use Rattle.flow_table.specs.declared.flow.Flow.{Flow}
use Rattle.tunnel_keys.specs.Edits.{IsLive}
use Rattle.tunnel_keys.specs.Keys.{Keys, IsKeys}
use Rattle.tunnel_keys.specs.declared.owner.KeyOwner.{KeyOwner}
use Rattle.nb_records.specs.Network.{Network}
use Rattle.address_sets.specs.Members.{sets_of}
use Rattle.nb_rules.specs.Valid.{IsValid}
use Rattle.net_model.specs.Owners.{owners_of}
use Rattle.net_model.specs.Sights.{roster_of}
use Rattle.logical_flows.specs.declared.flow.LFlow.{LFlow}
use Rattle.logical_flows.specs.declared.unit.UnitId.{UnitId}
use Rattle.stage_rows.specs.Rows.{on_some}
use Rattle.stage_rows.specs.Units.{datapath_of, rows_of}
use Rattle.flow_lowering.specs.LoweredFlows.{NamesLivePort, lowered_flows}
use Rattle.row_laws.specs.BestRow.{IsLoweredRow}
use Rattle.row_laws.specs.Numbers.{AreSameMembers}
use Rattle.northd_core.specs.Held.{HaveSame, unit_order}
use Rattle.northd_core.specs.Plans.{IsChange}

-- ---- what is lowered

-- what rows are lowered with: the records, of which they are and which have the sets and groups that matches name, and the keys
pub record Lowering : Type 0 where
  pub net : Network
  pub keys : Keys

-- the records can be compiled with the keys: they are valid, and who has a key by them has a live one
pub record CanCompile (l : Lowering) : Type 0 where
  pub valid : IsValid l.net
  pub hold : IsKeys l.keys
  pub live : (owner : KeyOwner) → Among owner (owners_of l.net) → IsLive l.keys owner

-- as `lower` asks it of a row on its datapath
pub record IsLowerable (keys : Keys) (sets : Sets) (datapath : Name) (row : LFlow) : Type 0 where
  pub suited : are_suited row.matching true ≡ true
  pub narrow : width_of (members_of sets) row.matching ≤ MAX_WIDTH
  pub live : IsSome (at keys.datapaths datapath)
  pub ports : AllByRecursion (NamesLivePort keys) row.actions

-- ---- the flows

-- the flow is one of those to which a row of the network is lowered
abbrev pub IsLoweredIn : Lowering → Flow → Type 0
IsLoweredIn l flow = IsLoweredRow l.net l.keys (sets_of l.net) flow

-- the flows of rows on a datapath
abbrev pub flows_of_rows : Keys → Sets → List LFlow → Name → List Flow
flows_of_rows keys sets rows datapath = flat_map (λ row. lowered_flows keys sets row datapath) rows

-- the flows of the unit: those of its rows on its datapath; none where it has no datapath
abbrev pub lowered_of : Lowering → UnitId → List Flow
lowered_of l unit = on_some (datapath_of l.net unit) (flows_of_rows l.keys (sets_of l.net) (rows_of l.net unit))

-- ---- the store

abbrev pub same_lowered : Flow → Flow → Bool
same_lowered = of_lowered.ghosts.eq

-- what is held is what the units have
abbrev pub HaveLowered : Lowering → Store Flow UnitId → Type 0
HaveLowered l store = HaveSame (flows_of unit_order store.origins) (lowered_of l)

-- every unit but these has the same flows before and after
abbrev pub StayLowered : Lowering → Lowering → List UnitId → Type 0
StayLowered before after units = (u : UnitId) → ¬ Among u units → (f : Flow) → Among f (lowered_of before u) ↔ Among f (lowered_of after u)

-- the plan was prepared for what is held, leads to what the units have afterwards, and tells which flows come and go
pub record IsLoweredPlan (before after : Lowering) (store : Store Flow UnitId) (plan : Prepared Flow UnitId) : Type 0 where
  pub ready : IsPreparedFor same_lowered unit_order store plan
  pub leads : HaveSame (flows_after unit_order store.origins plan.changes) (lowered_of after)
  pub change : IsChange (IsLoweredIn before) (IsLoweredIn after) plan.delta

-- What is held is left as it was: it stands for what it stood for, what was planned on it may still be applied, and it shows the same
-- in the same order.
pub record LeavesLowered (old new : Store Flow UnitId) : Type 0 where
  pub stands : (l : Lowering) → HaveLowered l old → HaveLowered l new
  pub ready : (plan : Prepared Flow UnitId) → IsPreparedFor same_lowered unit_order old plan → IsPreparedFor same_lowered unit_order new plan
  pub planned : (before after : Lowering) (plan : Prepared Flow UnitId) → IsLoweredPlan before after old plan → IsLoweredPlan before after new plan
  pub shown : new.counts ≡ old.counts

-- ---- the sets

-- In matches, the names of the sets with which rows are lowered stand for what the records give for them.
abbrev pub SetsLaw : Type 0
SetsLaw = (net : Network) → AreSameMembers (roster_of net).members (members_of (sets_of net))
