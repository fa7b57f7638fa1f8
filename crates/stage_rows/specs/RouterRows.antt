-- The rows of routers, of their ports and routes, and of what a router's port reaches.
use Rattle.std.specs.Prelude.{◌+◌, ◌*◌, ◌++◌, Bool, List, [], ◌∷◌, map}
use Rattle.ovn_base.specs.declared.address.Cidr.{Cidr}
use Rattle.ovn_base.specs.declared.address.Ip4.{Ip4}
use Rattle.ovn_base.specs.declared.address.Mac.{Mac}
use Rattle.ovn_base.specs.declared.name.Name.{Name}
use Rattle.ovn_base.specs.declared.stages.TheConstants.{ROUTER_ROUTE_TABLE}
use Rattle.flow_table.specs.declared.flow.Cause.TheVariants as cause
use Rattle.inet_packet.specs.declared.regs.Reg.TheVariants as reg
use Rattle.match_language.specs.declared.expr.Expr.{Expr}
use Rattle.match_language.specs.declared.expr.Expr.TheVariants as e
use Rattle.match_language.specs.declared.field.Field.TheVariants as f
use Rattle.match_language.specs.declared.field.Predicate.TheVariants as p
use Rattle.nb_records.specs.Network.{Network}
use Rattle.nb_records.specs.Ways.{Way, best_by, is_better_way, network_ways}
use Rattle.nb_records.specs.declared.router.Route.{Route}
use Rattle.nb_records.specs.declared.router.RouterPort.{RouterPort}
use Rattle.logical_flows.specs.declared.action.Action.{Action}
use Rattle.logical_flows.specs.declared.action.Action.TheVariants as a
use Rattle.flow_table.specs.declared.flow.ZoneOf.TheVariants as zone
use Rattle.logical_flows.specs.declared.flow.LFlow.{LFlow}
use Rattle.logical_flows.specs.declared.stage.Stage.TheVariants as stage
use Rattle.stage_rows.specs.Facts.{own_ips, answered_ips}
use Rattle.stage_rows.specs.Rows.{on_some, when, field_is, field_among, mac_is, ip_is, ip_in, ip_in_some, in_is, out_is, asks_for, reg_is, is_forward, is_reply, tracked_row, match_row, drop_row, pass_row, base_row, go_on, deliver}
use Rattle.stage_rows.specs.SwitchRows.{answer_actions}
use Rattle.stage_rows.specs.declared.priorities.TheConstants.{ECHO_PRIORITY, FIND_PRIORITY, KNOWN_DNAT_PRIORITY, KNOWN_SNAT_PRIORITY, NEIGHBOUR_PRIORITY, OTHER_ARP_PRIORITY, ROUTED_PRIORITY, ROUTER_ADMIT_PRIORITY, ROUTER_OWN_PRIORITY, ROUTER_REQUEST_PRIORITY, ROUTE_PRIORITY, SPENT_PRIORITY, UNDO_PRIORITY, UNROUTABLE_PRIORITY}

-- ---- r_admit

abbrev pub port_for_router : RouterPort → List LFlow
port_for_router q =
    pass_row stage.RouterAdmit ROUTER_ADMIT_PRIORITY (in_is q.name ∷ mac_is f.EthDst q.mac ∷ [])
    ∷ pass_row stage.RouterAdmit ROUTER_ADMIT_PRIORITY (in_is q.name ∷ e.Is p.EthMcast ∷ e.Is p.Arp ∷ [])
    ∷ []

abbrev pub router_admit : List LFlow
router_admit = drop_row stage.RouterAdmit 0 [] cause.NotForRouter ∷ []

-- ---- r_input

abbrev pub answered_input : RouterPort → Ip4 → LFlow
answered_input q ip = match_row stage.RouterInput ROUTER_REQUEST_PRIORITY (in_is q.name ∷ asks_for ip) (answer_actions q.mac ip)

-- an echo request for an address of the router itself is answered, and its answer only routed
abbrev pub echo_input : Ip4 → LFlow
echo_input ip =
    match_row stage.RouterInput ECHO_PRIORITY (ip_is f.Ip4Dst ip ∷ field_is f.Icmp4Type 8 ∷ field_is f.Icmp4Code 0 ∷ []) (a.EchoReply ∷ a.Set reg.Own 1 ∷ a.Go ROUTER_ROUTE_TABLE ∷ [])

abbrev pub port_input : Network → RouterPort → List LFlow
port_input net q = map (answered_input q) (answered_ips net q) ++ map echo_input (own_ips q)

-- addresses that no router passes on: this network, loopback, groups, and all
abbrev pub unroutable : List Cidr
unroutable =
    record { addr = record { 0 = 0 }; len = 8 }
    ∷ record { addr = record { 0 = 0x7f00_0000 }; len = 8 }
    ∷ record { addr = record { 0 = 0xe000_0000 }; len = 4 }
    ∷ record { addr = record { 0 = 0xffff_ffff }; len = 32 }
    ∷ []

abbrev pub from_or_to_unroutable : Expr
from_or_to_unroutable = e.Any (ip_in_some f.Ip4Src unroutable ∷ ip_in_some f.Ip4Dst unroutable ∷ [])

abbrev pub router_input : List LFlow
router_input =
    drop_row stage.RouterInput OTHER_ARP_PRIORITY (e.Is p.Arp ∷ []) cause.Arp
    ∷ drop_row stage.RouterInput UNROUTABLE_PRIORITY (from_or_to_unroutable ∷ []) cause.BadIp
    ∷ drop_row stage.RouterInput SPENT_PRIORITY (field_among f.IpTtl (0 ∷ 1 ∷ []) ∷ []) cause.Ttl
    ∷ pass_row stage.RouterInput ROUTED_PRIORITY (e.Is p.Ip4 ∷ [])
    ∷ drop_row stage.RouterInput 0 [] cause.NotIp4
    ∷ []

-- ---- r_undo

-- of a gateway router that translates
abbrev pub router_undo : Bool → List LFlow
router_undo translating =
    when translating (match_row stage.RouterUndo UNDO_PRIORITY (e.Is p.Ip4 ∷ []) (a.Undo ∷ a.Find zone.Dnat ∷ go_on stage.RouterUndo ∷ []) ∷ [])
    ++ base_row stage.RouterUndo
    ∷ []

-- ---- r_dnat

abbrev pub known_dnat : List Action
known_dnat = a.Touch ∷ a.Translate ∷ go_on stage.RouterDnat ∷ []

abbrev pub router_dnat : List LFlow
router_dnat =
    tracked_row stage.RouterDnat KNOWN_DNAT_PRIORITY (is_forward ∷ []) [] known_dnat
    ∷ tracked_row stage.RouterDnat KNOWN_DNAT_PRIORITY (is_reply ∷ []) [] known_dnat
    ∷ base_row stage.RouterDnat
    ∷ []

-- ---- r_own

abbrev pub own_row : Ip4 → LFlow
own_row ip = drop_row stage.RouterOwn ROUTER_OWN_PRIORITY (ip_is f.Ip4Dst ip ∷ []) cause.ForRouter

abbrev pub port_own : RouterPort → List LFlow
port_own q = map own_row (own_ips q)

abbrev pub router_own : List LFlow
router_own = base_row stage.RouterOwn ∷ []

-- ---- r_route

-- leaves by the port, to the next hop that the action sets
abbrev pub routed_by : RouterPort → Action → List Action
routed_by q next = a.DecTtl ∷ next ∷ a.SetOut q.name ∷ a.EthSrc q.mac ∷ a.Set reg.Loopback 1 ∷ go_on stage.RouterRoute ∷ []

-- the longer prefix is taken, and at equal length a network before a route
abbrev pub network_row : RouterPort → Cidr → LFlow
network_row q n = match_row stage.RouterRoute (ROUTE_PRIORITY + 2 * n.len + 1) (ip_in f.Ip4Dst n ∷ []) (routed_by q a.NextDst)

abbrev pub port_route : RouterPort → List LFlow
port_route q = map (network_row q) q.networks

-- a route leaves by the port with the longest network that holds its next hop
abbrev pub route_row : Route → Way → LFlow
route_row r w = match_row stage.RouterRoute (ROUTE_PRIORITY + 2 * r.prefix.len) (ip_in f.Ip4Dst r.prefix ∷ []) (routed_by w.hop.port (a.Set reg.Next r.nexthop.0))

abbrev pub routed_rows : Network → Route → List LFlow
routed_rows net r = on_some (best_by is_better_way (network_ways net r.router r.nexthop)) (λ w. route_row r w ∷ [])

abbrev pub router_route : List LFlow
router_route = drop_row stage.RouterRoute 0 [] cause.NoRoute ∷ []

-- ---- r_neighbour

abbrev pub neighbour_row : Name → Ip4 → Mac → LFlow
neighbour_row port ip mac = tracked_row stage.RouterNeighbour NEIGHBOUR_PRIORITY (reg_is reg.Next ip.0 ∷ []) (out_is port ∷ []) (a.EthDst mac ∷ deliver ∷ [])

abbrev pub router_neighbour_base : List LFlow
router_neighbour_base = drop_row stage.RouterNeighbour 0 [] cause.NoNeighbour ∷ []

-- ---- r_find

abbrev pub router_find : Bool → List LFlow
router_find translating =
    when translating (tracked_row stage.RouterFind FIND_PRIORITY (reg_is reg.Own 0 ∷ []) (e.Is p.Ip4 ∷ []) (a.Find zone.Snat ∷ go_on stage.RouterFind ∷ []) ∷ [])
    ++ base_row stage.RouterFind
    ∷ []

-- ---- r_snat

abbrev pub router_snat : List LFlow
router_snat =
    tracked_row stage.RouterSnat KNOWN_SNAT_PRIORITY (is_forward ∷ []) [] (a.Touch ∷ a.Translate ∷ go_on stage.RouterSnat ∷ [])
    ∷ base_row stage.RouterSnat
    ∷ []
