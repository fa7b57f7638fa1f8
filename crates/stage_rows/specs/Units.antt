-- The units of the network, the datapath of each, and the rows of each in each stage.
use Rattle.std.specs.Prelude.{◌≡◌, ◌++◌, Bool, true, false, List, [], ◌∷◌, map, flat_map, filter, Option, Some, None, option_map, is_some}
use Rattle.std.specs.Map.{keys_of, values_of}
use Rattle.std.specs.Option.{option_and_then}
use Rattle.ovn_base.specs.declared.address.Backend.{Backend}
use Rattle.ovn_base.specs.declared.address.Ip4.{Ip4}
use Rattle.ovn_base.specs.declared.address.Mac.{Mac}
use Rattle.ovn_base.specs.declared.name.Name.{Name}
use Rattle.ovn_base.specs.lists.Among.{Among}
use Rattle.ovn_base.specs.names.ByName.{at}
use Rattle.ovn_base.specs.names.SameName.{same_name}
use Rattle.match_language.specs.declared.field.Direction.{Direction}
use Rattle.match_language.specs.declared.field.Direction.TheVariants.{FromLport, ToLport}
use Rattle.nb_records.specs.Network.{Network, is_online}
use Rattle.nb_records.specs.Neighbours.{neighbour_of}
use Rattle.nb_records.specs.Routers.{Partner, switch_side, router_side, partner_of_router_port, translates, translates_sources, translates_destinations}
use Rattle.nb_records.specs.Switches.{is_virtual, is_stateful, is_named, applies, enabled_ports, router_port_behind, serves_at}
use Rattle.nb_records.specs.declared.balancer.LoadBalancer.{LoadBalancer}
use Rattle.nb_records.specs.declared.router.Nat.{Nat}
use Rattle.nb_records.specs.declared.router.Route.{Route}
use Rattle.nb_records.specs.declared.router.RouterPort.{RouterPort}
use Rattle.nb_records.specs.declared.rule.Acl.{Acl}
use Rattle.nb_records.specs.declared.switch.Switch.{Switch}
use Rattle.nb_records.specs.declared.switch.SwitchPort.{SwitchPort}
use Rattle.flow_table.specs.declared.flow.ZoneOf.TheVariants as zone
use Rattle.logical_flows.specs.declared.flow.LFlow.{LFlow}
use Rattle.logical_flows.specs.declared.stage.Stage.{Stage}
use Rattle.logical_flows.specs.declared.stage.Stage.TheVariants as stage
use Rattle.logical_flows.specs.declared.unit.UnitId.{UnitId}
use Rattle.logical_flows.specs.declared.unit.UnitId.TheVariants as unit
use Rattle.stage_rows.specs.BalancerRows.{switch_vips, router_vips}
use Rattle.stage_rows.specs.Facts.{ips_in_order, answered_ips, port_ips}
use Rattle.stage_rows.specs.NatRows.{nat_dnat, nat_snat}
use Rattle.stage_rows.specs.RouterRows as router
use Rattle.stage_rows.specs.Rows.{on_some, when}
use Rattle.stage_rows.specs.RuleRows.{rule_row}
use Rattle.stage_rows.specs.StateRows.{state_rows}
use Rattle.stage_rows.specs.SwitchRows as switch

-- ---- the rows of each kind of unit, in each stage

abbrev pub switch_port_rows : Stage → Network → SwitchPort → List LFlow
switch_port_rows stage.SwitchAdmit net q = switch.port_admit q
switch_port_rows stage.SwitchPortSecurity net q = switch.port_port_security q
switch_port_rows stage.SwitchTrack net q = switch.port_track net q
switch_port_rows stage.SwitchArp net q = switch.port_arp q
switch_port_rows stage.SwitchLookup net q = switch.port_lookup net q
switch_port_rows stage.SwitchTrackOut net q = switch.port_track_out net q
switch_port_rows stage.SwitchSecurityOut net q = switch.port_security_out q
switch_port_rows _ net q = []

abbrev pub router_port_rows : Stage → Network → RouterPort → List LFlow
router_port_rows stage.RouterAdmit net q = router.port_for_router q
router_port_rows stage.RouterInput net q = router.port_input net q
router_port_rows stage.RouterOwn net q = router.port_own q
router_port_rows stage.RouterRoute net q = router.port_route q
router_port_rows _ net q = []

abbrev pub is_from_lport : Direction → Bool
is_from_lport FromLport = true
is_from_lport ToLport = false

abbrev pub is_to_lport : Direction → Bool
is_to_lport FromLport = false
is_to_lport ToLport = true

abbrev pub rule_rows : Stage → Acl → List LFlow
rule_rows stage.SwitchAclIn r = when (is_from_lport r.direction) (rule_row r ∷ [])
rule_rows stage.SwitchAclOut r = when (is_to_lport r.direction) (rule_row r ∷ [])
rule_rows _ r = []

abbrev pub route_rows : Stage → Network → Route → List LFlow
route_rows stage.RouterRoute net r = router.routed_rows net r
route_rows _ net r = []

abbrev pub neighbour_rows : Stage → Name → Ip4 → Mac → List LFlow
neighbour_rows stage.RouterNeighbour port ip mac = router.neighbour_row port ip mac ∷ []
neighbour_rows _ port ip mac = []

abbrev pub nat_rows : Stage → Nat → List LFlow
nat_rows stage.RouterDnat r = when (translates_destinations r.kind) (nat_dnat r)
nat_rows stage.RouterSnat r = when (translates_sources r.kind) (nat_snat r)
nat_rows _ r = []

-- a balancer on a switch, or on a router, by the test of which backends are online
abbrev pub balancer_rows : Stage → (Backend → Bool) → Name → LoadBalancer → List LFlow
balancer_rows stage.SwitchStateIn online datapath b = when (is_named datapath b.switches) (switch_vips online b)
balancer_rows stage.RouterDnat online datapath b = when (is_named datapath b.routers) (router_vips online b)
balancer_rows _ online datapath b = []

-- of a switch that is stateful or not, and has ports that take unknown addresses or not
abbrev pub switch_rows : Stage → Bool → Bool → List LFlow
switch_rows stage.SwitchAdmit stateful takes = switch.switch_admit
switch_rows stage.SwitchPortSecurity stateful takes = switch.switch_port_security
switch_rows stage.SwitchTrack stateful takes = switch.switch_track
switch_rows stage.SwitchAclIn stateful takes = switch.switch_acl_in
switch_rows stage.SwitchStateIn stateful takes = state_rows stateful stage.SwitchStateIn zone.In
switch_rows stage.SwitchArp stateful takes = switch.switch_arp
switch_rows stage.SwitchLookup stateful takes = switch.switch_lookup takes
switch_rows stage.SwitchTrackOut stateful takes = switch.switch_track_out
switch_rows stage.SwitchAclOut stateful takes = switch.switch_acl_out
switch_rows stage.SwitchStateOut stateful takes = state_rows stateful stage.SwitchStateOut zone.Out
switch_rows stage.SwitchSecurityOut stateful takes = switch.switch_security_out
switch_rows _ stateful takes = []

-- of a router that is a gateway with a row of NAT or a balancer, or is none
abbrev pub router_rows : Stage → Bool → List LFlow
router_rows stage.RouterAdmit translating = router.router_admit
router_rows stage.RouterInput translating = router.router_input
router_rows stage.RouterUndo translating = router.router_undo translating
router_rows stage.RouterDnat translating = router.router_dnat
router_rows stage.RouterOwn translating = router.router_own
router_rows stage.RouterRoute translating = router.router_route
router_rows stage.RouterNeighbour translating = router.router_neighbour_base
router_rows stage.RouterFind translating = router.router_find translating
router_rows stage.RouterSnat translating = router.router_snat
router_rows _ translating = []

-- ---- the rows of a unit

-- the Ethernet address at which the router port of that name reaches the address
abbrev pub neighbour_named : Network → Name → Ip4 → Option Mac
neighbour_named net port ip = option_and_then (λ q. neighbour_of net q ip) (at net.router_ports port)

-- whether the router of that name is a gateway with a row of NAT or a balancer
abbrev pub translates_named : Network → Name → Option Bool
translates_named net d = option_map (translates net) (at net.routers d)

-- of a port: that of a switch, where one has the name, else that of a router
abbrev pub port_rows : Stage → Network → Option SwitchPort → Option RouterPort → List LFlow
port_rows s net (Some q) other = switch_port_rows s net q
port_rows s net None other = on_some other (router_port_rows s net)

-- in a stage; a name that stands for no record has none
abbrev pub rows_in : Stage → Network → UnitId → List LFlow
rows_in s net (unit.Port q) = port_rows s net (at net.switch_ports q) (at net.router_ports q)
rows_in s net (unit.Rule r d) = on_some (at net.acls r) (λ x. when (applies net d x) (rule_rows s x))
rows_in s net (unit.Route r) = on_some (at net.routes r) (route_rows s net)
rows_in s net (unit.Neighbour port ip) = on_some (neighbour_named net port ip) (neighbour_rows s port ip)
rows_in s net (unit.Nat r) = on_some (at net.nats r) (nat_rows s)
rows_in s net (unit.Balancer b d) = on_some (at net.load_balancers b) (balancer_rows s (is_online net b) d)
rows_in s net (unit.Switch d) = on_some (at net.switches d) (λ (x : Switch). switch_rows s (is_stateful net d) (switch.some_take_unknown net d))
rows_in s net (unit.Router d) = on_some (translates_named net d) (router_rows s)

-- all stages, by table, those of switches before those of routers
abbrev pub all_stages : List Stage
all_stages =
    stage.SwitchAdmit ∷ stage.RouterAdmit ∷ stage.SwitchPortSecurity ∷ stage.RouterInput ∷ stage.SwitchTrack ∷ stage.RouterUndo ∷ stage.SwitchAclIn ∷ stage.RouterDnat
    ∷ stage.SwitchStateIn ∷ stage.RouterOwn ∷ stage.SwitchArp ∷ stage.RouterRoute ∷ stage.SwitchLookup ∷ stage.RouterNeighbour ∷ stage.SwitchTrackOut ∷ stage.RouterFind
    ∷ stage.SwitchAclOut ∷ stage.RouterSnat ∷ stage.SwitchStateOut ∷ stage.SwitchSecurityOut ∷ []

abbrev pub rows_of : Network → UnitId → List LFlow
rows_of net u = flat_map (λ s. rows_in s net u) all_stages

-- ---- the datapath of a unit

abbrev pub datapath_of_port : Option SwitchPort → Option RouterPort → Option Name
datapath_of_port (Some q) p = Some q.switch
datapath_of_port None p = option_map (λ (q : RouterPort). q.router) p

abbrev pub datapath_of : Network → UnitId → Option Name
datapath_of net (unit.Port q) = datapath_of_port (at net.switch_ports q) (at net.router_ports q)
datapath_of net (unit.Rule r d) = Some d
datapath_of net (unit.Route r) = option_map (λ (x : Route). x.router) (at net.routes r)
datapath_of net (unit.Neighbour port ip) = option_map (λ (q : RouterPort). q.router) (at net.router_ports port)
datapath_of net (unit.Nat r) = option_map (λ (x : Nat). x.router) (at net.nats r)
datapath_of net (unit.Balancer b d) = Some d
datapath_of net (unit.Switch d) = Some d
datapath_of net (unit.Router d) = Some d

-- ---- the units

abbrev pub port_units : Network → List UnitId
port_units net = map unit.Port (keys_of net.switch_ports ++ keys_of net.router_ports)

-- a rule on each switch to which it applies
abbrev pub units_of_rule : Network → Name × Acl → List UnitId
units_of_rule net r = map (unit.Rule r.0) (filter (λ d. applies net d r.1) (keys_of net.switches))

abbrev pub rule_units : Network → List UnitId
rule_units net = flat_map (units_of_rule net) net.acls

-- the addresses that a port may reach by its partner: those of the switch's virtual ports and of the router ports behind its others,
-- or those of the router port to which it is joined
abbrev pub ips_beyond : Network → Option Partner → List Ip4
ips_beyond net None = []
ips_beyond net (Some (switch_side q)) =
    flat_map port_ips (filter is_virtual (enabled_ports net q.switch))
    ++ flat_map (λ x. on_some (router_port_behind net x) (answered_ips net)) (enabled_ports net q.switch)
ips_beyond net (Some (router_side q)) = answered_ips net q

-- and those to which it is bound
abbrev pub bound_ips : Network → RouterPort → List Ip4
bound_ips net q = map (λ s. s.ip) (filter (λ s. same_name s.port q.name) (values_of net.static_macs))

-- those that it does reach, in order
abbrev pub neighbour_ips : Network → RouterPort → List Ip4
neighbour_ips net q = filter (λ ip. is_some (neighbour_of net q ip)) (ips_in_order (bound_ips net q ++ ips_beyond net (partner_of_router_port net q)))

abbrev pub units_of_router_port : Network → Name × RouterPort → List UnitId
units_of_router_port net q = map (unit.Neighbour q.0) (neighbour_ips net q.1)

abbrev pub neighbour_units : Network → List UnitId
neighbour_units net = flat_map (units_of_router_port net) net.router_ports

-- a balancer on each switch and router that it serves
abbrev pub units_of_balancer : Network → Name × LoadBalancer → List UnitId
units_of_balancer net b = map (unit.Balancer b.0) (filter (λ d. serves_at d b.1) (keys_of net.switches ++ keys_of net.routers))

abbrev pub balancer_units : Network → List UnitId
balancer_units net = flat_map (units_of_balancer net) net.load_balancers

abbrev pub units_of : Network → List UnitId
units_of net =
    port_units net
    ++ rule_units net
    ++ map unit.Route (keys_of net.routes)
    ++ neighbour_units net
    ++ map unit.Nat (keys_of net.nats)
    ++ balancer_units net
    ++ map unit.Switch (keys_of net.switches)
    ++ map unit.Router (keys_of net.routers)

-- ---- pairs

-- the row is one of a unit of the network, on the unit's datapath
pub record IsPairedRow (net : Network) (flow : LFlow) (datapath : Name) : Type 0 where
  pub origin : UnitId
  pub there : Among origin (units_of net)
  pub among : Among flow (rows_of net origin)
  pub on : datapath_of net origin ≡ Some datapath

-- the pairs of a row and its datapath, of all units
abbrev pub pairs_of_unit : Network → UnitId → List (LFlow × Name)
pairs_of_unit net u = on_some (datapath_of net u) (λ d. map (λ r. (r, d)) (rows_of net u))

abbrev pub pairs_of : Network → List (LFlow × Name)
pairs_of net = flat_map (pairs_of_unit net) (units_of net)

-- the logical flows: the rows of all units, each on the datapaths with which it is a pair
pub record IsLogicalFlow (net : Network) (flow : LFlow) : Type 0 where
  pub datapath : Name
  pub pair : IsPairedRow net flow datapath
