-- The flows of a chassis follow from live keys alone: they stay where others are retired.
use Rattle.std.specs.Prelude.{◌≡◌, ℕ, List, map, refl}
use Rattle.std.proofs.Common.{ap, subst, ◌∙◌}
use Rattle.flow_lowering.specs.LoweredFlows.{lowered_op, lowered_cubes, flow_on, lowered_flows}
use Rattle.flow_table.specs.declared.flow.Flow.{Flow}
use Rattle.logical_flows.specs.declared.action.Action.{Action}
use Rattle.logical_flows.specs.declared.action.Action.TheVariants as a
use Rattle.logical_flows.specs.declared.flow.LFlow.{LFlow}
use Rattle.match_cubes.specs.declared.sets.Sets.{Sets}
use Rattle.nb_records.specs.Network.{Network}
use Rattle.nb_records.specs.Routers.{Partner, switch_side, router_side}
use Rattle.nb_records.specs.declared.router.RouterPort.{RouterPort}
use Rattle.nb_records.specs.declared.switch.SwitchPort.{SwitchPort}
use Rattle.ovn_base.specs.declared.name.Name.{Name}
use Rattle.ovn_base.specs.lists.Among.{Among}
use Rattle.physical_flows.specs.Rows.{patch_row}
use Rattle.physical_flows.specs.Stages.{Basis, IsDatapath, IsPort, IsRouter, IsRouterPort, PatchPort, IsPatchPort, to_router, of_router, IsHere, EntryRow, RemoteRow, HomeRow, ReturnRow, OutputRow, beyond}
use Rattle.row_laws.specs.BestRow.{IsLoweredRow}
use Rattle.tunnel_keys.specs.Keys.{Keys}
use Rattle.tunnel_keys.specs.declared.owner.HeldDatapath.{HeldDatapath}
use Rattle.tunnel_keys.specs.declared.owner.HeldPort.{HeldPort}
use Rattle.physical_flows.specs.Around.{AroundFlow}
use Rattle.physical_flows.specs.Around.AroundFlow.{in_entry, in_remote, in_home, in_back, in_output}

-- the same live keys, with these that are retired
abbrev pub retiring : Keys → List HeldDatapath → List HeldPort → Keys
retiring keys datapaths ports = record keys { retired_datapaths = datapaths; retired_ports = ports }

-- ---- the tables around the pipelines

module _ (b : Basis) (datapaths : List HeldDatapath) (ports : List HeldPort) where
  abbrev pub then_basis : Basis
  then_basis = record b { keys = retiring b.keys datapaths ports }

  datapath_stays : (d : Name) (dp : ℕ) → IsDatapath b d dp → IsDatapath then_basis d dp
  datapath_stays d dp h = record { switch = h.switch; there = h.there; live = h.live; has = h.has; number = h.number }

  port_stays : (q : Name) (port : SwitchPort) (dp key : ℕ) → IsPort b q port dp key → IsPort then_basis q port dp key
  port_stays q port dp key h = record { there = h.there; on = datapath_stays port.switch dp h.on; live = h.live; has = h.has; number = h.number }

  here_stays : (q : Name) (zone : ℕ) → IsHere b q zone → IsHere then_basis q zone
  here_stays q zone h = record { bound = h.bound; zoned = h.zoned }

  router_stays : (d : Name) (dp : ℕ) → IsRouter b d dp → IsRouter then_basis d dp
  router_stays d dp h = record { router = h.router; there = h.there; live = h.live; has = h.has; number = h.number }

  router_port_stays : (q : Name) (port : RouterPort) (dp key : ℕ) → IsRouterPort b q port dp key → IsRouterPort then_basis q port dp key
  router_port_stays q port dp key h = record { there = h.there; on = router_stays port.router dp h.on; live = h.live; has = h.has; number = h.number }

  patch_stays : (x : PatchPort) → IsPatchPort b x → IsPatchPort then_basis x
  patch_stays x (to_router q port dp key of leads is) = to_router q port dp key (port_stays q port dp key of) leads is
  patch_stays x (of_router q port dp key of is) = of_router q port dp key (router_port_stays q port dp key of) is

  -- a copy comes in beyond by the same numbers
  beyond_stays : (partner : Partner) → beyond b partner ≡ beyond then_basis partner
  beyond_stays (switch_side q) = refl
  beyond_stays (router_side r) = refl

  entry_stays : (f : Flow) → EntryRow b f → EntryRow then_basis f
  entry_stays f (EntryRow.entry q port dp key zone of is e) = EntryRow.entry q port dp key zone (port_stays q port dp key of) (here_stays q zone is) e
  entry_stays f (EntryRow.arrival e) = EntryRow.arrival e

  remote_stays : (f : Flow) → RemoteRow b f → RemoteRow then_basis f
  remote_stays f (RemoteRow.remote q port dp key home of bound apart e) = RemoteRow.remote q port dp key home (port_stays q port dp key of) bound apart e
  remote_stays f (RemoteRow.away x home leads is apart e) = RemoteRow.away x home (patch_stays x leads) is apart e
  remote_stays f (RemoteRow.spread d dp group on e) = RemoteRow.spread d dp group (datapath_stays d dp on) e
  remote_stays f (RemoteRow.stay e) = RemoteRow.stay e

  home_stays : (f : Flow) → HomeRow b f → HomeRow then_basis f
  home_stays f (HomeRow.home q port dp key zone of is e) = HomeRow.home q port dp key zone (port_stays q port dp key of) (here_stays q zone is) e
  home_stays f (HomeRow.passes x leads is e) = HomeRow.passes x (patch_stays x leads) is e
  home_stays f (HomeRow.enters x leads is e) = HomeRow.enters x (patch_stays x leads) is e
  home_stays f (HomeRow.copies d dp group arrived on e) = HomeRow.copies d dp group arrived (datapath_stays d dp on) e

  back_stays : (f : Flow) → ReturnRow b f → ReturnRow then_basis f
  back_stays f (ReturnRow.back q port dp key of e) = ReturnRow.back q port dp key (port_stays q port dp key of) e
  back_stays f (ReturnRow.back_in q port dp key of e) = ReturnRow.back_in q port dp key (router_port_stays q port dp key of) e
  back_stays f (ReturnRow.leave e) = ReturnRow.leave e

  output_stays : (f : Flow) → OutputRow b f → OutputRow then_basis f
  output_stays f (OutputRow.output q port dp key of own e) = OutputRow.output q port dp key (port_stays q port dp key of) own e
  output_stays f (OutputRow.patch x partner leads is e) = OutputRow.patch x partner (patch_stays x leads) is (e ∙ ap (patch_row x.dp x.key) (beyond_stays partner))
  output_stays f (OutputRow.no_peer x leads is e) = OutputRow.no_peer x (patch_stays x leads) is e

  pub around_stays : (f : Flow) → AroundFlow b f → AroundFlow then_basis f
  around_stays f (in_entry row) = in_entry (entry_stays f row)
  around_stays f (in_remote row) = in_remote (remote_stays f row)
  around_stays f (in_home row) = in_home (home_stays f row)
  around_stays f (in_back row) = in_back (back_stays f row)
  around_stays f (in_output row) = in_output (output_stays f row)

-- ---- lowered rows

module _ (keys : Keys) (datapaths : List HeldDatapath) (ports : List HeldPort) where
  same_op : (action : Action) → lowered_op keys action ≡ lowered_op (retiring keys datapaths ports) action
  unfolding lowered_op
  same_op (a.Set r n) = refl
  same_op (a.SetOut p) = refl
  same_op a.OutIsIn = refl
  same_op (a.Find z) = refl
  same_op a.Undo = refl
  same_op a.Translate = refl
  same_op a.Touch = refl
  same_op a.Block = refl
  same_op a.Unblock = refl
  same_op (a.Commit z) = refl
  same_op (a.Dnat z ip) = refl
  same_op (a.Snat z ip) = refl
  same_op (a.Balance z vip backends) = refl
  same_op (a.ArpReply mac ip) = refl
  same_op a.EchoReply = refl
  same_op a.DecTtl = refl
  same_op a.NextDst = refl
  same_op (a.EthSrc mac) = refl
  same_op (a.EthDst mac) = refl
  same_op (a.Go table) = refl
  same_op (a.Drop cause) = refl

  same_flows : (sets : Sets) (row : LFlow) (datapath : Name) → lowered_flows keys sets row datapath ≡ lowered_flows (retiring keys datapaths ports) sets row datapath
  same_flows sets row datapath = λ i. map (flow_on row (map (λ action. same_op action i) row.actions)) (lowered_cubes keys sets row datapath)

  pub row_stays : (net : Network) (sets : Sets) (f : Flow) → IsLoweredRow net keys sets f → IsLoweredRow net (retiring keys datapaths ports) sets f
  row_stays net sets f h = record { row = h.row; datapath = h.datapath; pair = h.pair; among = subst (λ (fs : List Flow). Among f fs) (same_flows sets h.row h.datapath) h.among }
