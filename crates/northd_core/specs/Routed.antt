-- The units that routers and balancers have.
use Rattle.std.specs.Prelude.{◌++◌, Bool, false, List, map, flat_map, filter, Option, Some, None, is_some}
use Rattle.std.specs.Map.{keys_of}
use Rattle.ovn_base.specs.declared.address.Ip4.{Ip4}
use Rattle.ovn_base.specs.declared.name.Name.{Name}
use Rattle.ovn_base.specs.names.ByName.{at}
use Rattle.nb_records.specs.Network.{Network}
use Rattle.nb_records.specs.Switches.{enabled_ports, is_virtual, router_port_behind, serves_at}
use Rattle.nb_records.specs.declared.balancer.LoadBalancer.{LoadBalancer}
use Rattle.logical_flows.specs.declared.unit.UnitId.{UnitId}
use Rattle.logical_flows.specs.declared.unit.UnitId.TheVariants as unit
use Rattle.stage_rows.specs.Facts.{answered_if, port_ips}
use Rattle.stage_rows.specs.Rows.{on_some}
use Rattle.stage_rows.specs.Units.{balancer_units, neighbour_named, neighbour_units, units_of_router_port}

-- the ports of routers, the routes, what the ports reach, the rows of NAT, the balancers on what they serve, and the routers
abbrev pub routed_units : Network → List UnitId
routed_units net =
    map unit.Port (keys_of net.router_ports)
    ++ map unit.Route (keys_of net.routes)
    ++ neighbour_units net
    ++ map unit.Nat (keys_of net.nats)
    ++ balancer_units net
    ++ map unit.Router (keys_of net.routers)

-- ---- parts of it

-- the addresses on a switch that a router's port may reach: those of its virtual ports, and those that the router ports behind its others answer
abbrev pub ips_on_switch : Network → Name → List Ip4
ips_on_switch net switch = flat_map port_ips (filter is_virtual (enabled_ports net switch)) ++ flat_map (λ q. answered_if net (router_port_behind net q)) (enabled_ports net switch)

-- what the router port of a name reaches of the addresses
abbrev pub reached_units : Network → Name → List Ip4 → List UnitId
reached_units net port ips = map (unit.Neighbour port) (filter (λ ip. is_some (neighbour_named net port ip)) ips)

-- what it reaches
abbrev pub neighbours_named : Network → Name → List UnitId
neighbours_named net port = on_some (at net.router_ports port) (λ q. units_of_router_port net (port, q))

-- a balancer on those of the switches or routers that it serves
abbrev pub served_units : Name → LoadBalancer → List Name → List UnitId
served_units name balancer datapaths = map (unit.Balancer name) (filter (λ d. serves_at d balancer) datapaths)

-- the balancer is there and serves the switch or router
abbrev pub serves_if : Name → Option LoadBalancer → Bool
serves_if datapath None = false
serves_if datapath (Some balancer) = serves_at datapath balancer

abbrev pub is_balancer_on : Network → Name → Name → Bool
is_balancer_on net balancer datapath = serves_if datapath (at net.load_balancers balancer)
