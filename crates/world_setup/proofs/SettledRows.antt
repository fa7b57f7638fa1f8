-- Lowered rows follow from live keys alone: they stay once retired keys are free.
use Rattle.std.specs.Prelude.{◌≡◌, ◌++◌, List, [], ◌∷◌, map, Option, None, Some, refl}
use Rattle.std.proofs.Common.{subst, sym}
use Rattle.address_sets.specs.Members.{sets_of}
use Rattle.flow_lowering.specs.LoweredFlows.{lowered_op, lowered_cubes, flow_on, lowered_flows}
use Rattle.flow_refs.specs.Store.{Store}
use Rattle.flow_table.specs.declared.flow.Flow.{Flow}
use Rattle.logical_flows.specs.declared.action.Action.{Action}
use Rattle.logical_flows.specs.declared.action.Action.TheVariants as a
use Rattle.logical_flows.specs.declared.flow.LFlow.{LFlow}
use Rattle.logical_flows.specs.declared.unit.UnitId.{UnitId}
use Rattle.match_cubes.specs.declared.sets.Sets.{Sets}
use Rattle.nb_records.specs.Network.{Network}
use Rattle.northd_core.specs.Lowering.{HaveLowered, flows_of_rows, lowered_of}
use Rattle.ovn_base.specs.declared.name.Name.{Name}
use Rattle.ovn_base.specs.lists.Among.{Among}
use Rattle.stage_rows.specs.Rows.{on_some}
use Rattle.stage_rows.specs.Units.{datapath_of, rows_of}
use Rattle.tunnel_keys.specs.Keys.{Keys, settled}

module _ (keys : Keys) where
  same_op : (action : Action) → lowered_op (settled keys) action ≡ lowered_op keys action
  unfolding lowered_op
  same_op (a.Set r n) = refl
  same_op (a.SetOut p) = refl
  same_op a.OutIsIn = refl
  same_op (a.Find z) = refl
  same_op a.Undo = refl
  same_op a.Translate = refl
  same_op a.Touch = refl
  same_op a.Block = refl
  same_op a.Unblock = refl
  same_op (a.Commit z) = refl
  same_op (a.Dnat z ip) = refl
  same_op (a.Snat z ip) = refl
  same_op (a.Balance z vip backends) = refl
  same_op (a.ArpReply mac ip) = refl
  same_op a.EchoReply = refl
  same_op a.DecTtl = refl
  same_op a.NextDst = refl
  same_op (a.EthSrc mac) = refl
  same_op (a.EthDst mac) = refl
  same_op (a.Go table) = refl
  same_op (a.Drop cause) = refl

  same_flows : (sets : Sets) (row : LFlow) (datapath : Name) → lowered_flows (settled keys) sets row datapath ≡ lowered_flows keys sets row datapath
  same_flows sets row datapath = λ i. map (flow_on row (map (λ action. same_op action i) row.actions)) (lowered_cubes keys sets row datapath)

  same_rows : (sets : Sets) (rows : List LFlow) (datapath : Name) → flows_of_rows (settled keys) sets rows datapath ≡ flows_of_rows keys sets rows datapath
  same_rows sets [] datapath = refl
  same_rows sets (row ∷ rows) datapath = λ i. same_flows sets row datapath i ++ same_rows sets rows datapath i

  lowered_settled : (net : Network) (u : UnitId) → lowered_of (record { net = net; keys = settled keys }) u ≡ lowered_of (record { net = net; keys = keys }) u
  lowered_settled net u = by (datapath_of net u)
    where
      by : (o : Option Name) → on_some o (flows_of_rows (settled keys) (sets_of net) (rows_of net u)) ≡ on_some o (flows_of_rows keys (sets_of net) (rows_of net u))
      by None = refl
      by (Some datapath) = same_rows (sets_of net) (rows_of net u) datapath

  pub settled_lowered : (net : Network) (lowered : Store Flow UnitId) → HaveLowered (record { net = net; keys = keys }) lowered → HaveLowered (record { net = net; keys = settled keys }) lowered
  settled_lowered net lowered have = λ u f. (
    λ m. subst (λ l. Among f l) (sym (lowered_settled net u)) ((have u f).0 m),
    λ m. (have u f).1 (subst (λ l. Among f l) (lowered_settled net u) m),
  )
