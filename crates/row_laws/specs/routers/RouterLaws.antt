-- The law of a stage of a router: the row that is taken does what the network says.
use Rattle.std.specs.Prelude.{◌≡◌, true, List, Some, None, IsSome}
use Rattle.ovn_base.specs.declared.address.Ip4.{Ip4}
use Rattle.ovn_base.specs.declared.name.Name.{Name}
use Rattle.ovn_base.specs.names.ByName.{at}
use Rattle.inet_packet.specs.declared.regs.Regs.{Regs}
use Rattle.flow_table.specs.Matching.{IsBest, NoneMatches}
use Rattle.flow_table.specs.declared.flow.Flow.{Flow}
use Rattle.match_cubes.specs.declared.sets.Sets.{Sets}
use Rattle.nb_records.specs.Network.{Network}
use Rattle.nb_records.specs.Ways.{Way, route_of}
use Rattle.nb_rules.specs.Valid.{IsValid}
use Rattle.logical_flows.specs.Stages.{stage_table}
use Rattle.logical_flows.specs.declared.flow.LFlow.{LFlow}
use Rattle.logical_flows.specs.declared.stage.Stage.{Stage}
use Rattle.logical_flows.specs.declared.stage.Stage.TheVariants as stage
use Rattle.tunnel_keys.specs.Keys.{Keys}
use Rattle.flow_lowering.specs.LoweredFlows.{lowered_ops}
use Rattle.net_model.specs.Sights.{Sight}
use Rattle.row_laws.specs.BestRow.{HoldsRows}
use Rattle.row_laws.specs.Numbers.{HasNumbers}
use Rattle.row_laws.specs.Rows.{IsRowIn, RowHolds, IsBestRow}
use Rattle.row_laws.specs.routers.RouterActions.{best_way, router_actions_at}
use Rattle.row_laws.specs.routers.RouterCopies.{RouterCopy, IsAtRouterPort, router_roster}

-- An unbeaten row of the stage that holds of a copy in the router has exactly the actions that the network tells.
abbrev pub RouterStageLaw : Stage → Type 0
RouterStageLaw s =
    (net : Network) → IsValid net → (c : RouterCopy) (regs : Regs) → IsAtRouterPort net s c regs
    → (row : LFlow) → IsBestRow net (router_roster net) (stage_table s) c.port.router regs c.sight row → row.actions ≡ router_actions_at s net c

-- Some row of the stage holds of every packet on a router.
abbrev pub RouterBaseLaw : Stage → Type 0
RouterBaseLaw s =
    (net : Network) (router : Name) → IsSome (at net.routers router) → (regs : Regs) (sight : Sight)
    → (row : LFlow) × IsRowIn net (stage_table s) router row × RowHolds (router_roster net) regs sight row

-- So two unbeaten rows that hold of it have equal actions.
abbrev pub RouterAgreeLaw : Stage → Type 0
RouterAgreeLaw s =
    (net : Network) → IsValid net → (c : RouterCopy) (regs : Regs) → IsAtRouterPort net s c regs
    → (row other : LFlow) → IsBestRow net (router_roster net) (stage_table s) c.port.router regs c.sight row
    → IsBestRow net (router_roster net) (stage_table s) c.port.router regs c.sight other → row.actions ≡ other.actions

-- a router's table of the stage holds the rows, and the copy's registers have its numbers
pub record IsInRouterTable (net : Network) (keys : Keys) (sets : Sets) (flows : List Flow) (s : Stage) (c : RouterCopy) (regs : Regs) : Type 0 where
  pub valid : IsValid net
  pub holds : HoldsRows net keys sets flows (stage_table s)
  pub numbers : HasNumbers keys sets (router_roster net) c.port.router regs c.sight
  pub copy : IsAtRouterPort net s c regs

-- In numbers: a flow of the stage's table is taken, and each that may be does what the network tells.
abbrev pub RouterTableLaw : Stage → Type 0
RouterTableLaw s =
    (net : Network) (keys : Keys) (sets : Sets) (flows : List Flow) (c : RouterCopy) (regs : Regs) → IsInRouterTable net keys sets flows s c regs
    → (¬ NoneMatches flows (stage_table s) regs c.sight.packet)
    × ((f : Flow) → IsBest flows (stage_table s) regs c.sight.packet f → f.ops ≡ lowered_ops keys (router_actions_at s net c))

-- It is so in each stage of a router.
pub record OfEachRouterStage (Law : Stage → Type 0) : Type 0 where
  pub admit : Law stage.RouterAdmit
  pub input : Law stage.RouterInput
  pub undo : Law stage.RouterUndo
  pub dnat : Law stage.RouterDnat
  pub own : Law stage.RouterOwn
  pub route : Law stage.RouterRoute
  pub neighbour : Law stage.RouterNeighbour
  pub find : Law stage.RouterFind
  pub snat : Law stage.RouterSnat

-- ---- routes

-- the way is the network's route: it leads to the same next hop, which by a network is the destination, and leaves by a port of the router
pub record IsRouteBy (net : Network) (router : Name) (dst : Ip4) (w : Way) : Type 0 where
  pub route : route_of net router dst ≡ Some w.hop
  pub next : w.is_network ≡ true → w.hop.next ≡ dst
  pub there : at net.router_ports w.hop.port.name ≡ Some w.hop.port
  pub on : w.hop.port.router ≡ router

-- The best way is the network's route, and where there is no way there is no route.
abbrev pub BestWayLaw : Type 0
BestWayLaw =
    (net : Network) → IsValid net → (router : Name) (dst : Ip4)
    → ((w : Way) → best_way net router dst ≡ Some w → IsRouteBy net router dst w) × (best_way net router dst ≡ None → route_of net router dst ≡ None)
