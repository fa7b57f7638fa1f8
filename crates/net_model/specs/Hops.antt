-- Routes and neighbours, as plain functions answer them: by names.
use Rattle.std.specs.Prelude.{◌==◌, ◌&&◌, ◌||◌, nat_lt, Bool, true, false, not, List, [], map, flat_map, Option, Some, None, option_map, cond}
use Rattle.std.specs.List.{filter, filter_map}
use Rattle.std.specs.Option.{option_and_then}
use Rattle.nb_records.specs.Neighbours.{neighbour_of}
use Rattle.nb_records.specs.Network.{Network}
use Rattle.nb_records.specs.Routers.{contains}
use Rattle.nb_records.specs.Ways.{best_of, best_by, NextHop, route_of}
use Rattle.nb_records.specs.declared.router.Route.{Route}
use Rattle.nb_records.specs.declared.router.RouterPort.{RouterPort}
use Rattle.ovn_base.specs.declared.address.Cidr.{Cidr}
use Rattle.ovn_base.specs.declared.address.Ip4.{Ip4}
use Rattle.ovn_base.specs.declared.address.Mac.{Mac}
use Rattle.ovn_base.specs.declared.name.Name.{Name}
use Rattle.ovn_base.specs.names.ByName.{at}
use Rattle.ovn_base.specs.names.SameName.{same_name}
use Rattle.net_model.specs.declared.hops.Hop.{Hop}
use Rattle.net_model.specs.declared.hops.Leg.{Leg}

-- ---- what is answered

abbrev pub hop_of : NextHop → Hop
hop_of h = record { port = h.port.name; next = h.next }

abbrev pub hop_on : Network → Name → Ip4 → Option Hop
hop_on net router dst = option_map hop_of (route_of net router dst)

-- the neighbour of the router port of that name, if there is one
abbrev pub neighbour_at : Network → Name → Ip4 → Option Mac
neighbour_at net name ip = option_and_then (λ (p : RouterPort). neighbour_of net p ip) (at net.router_ports name)

-- ---- how routes are found: the same ways by names

abbrev pub is_better_leg : Leg → Leg → Bool
is_better_leg a b = nat_lt b.length a.length || ((a.length == b.length) && (a.is_network && not b.is_network))

abbrev pub best_leg : List Leg → Option Leg
best_leg legs = best_by is_better_leg legs

-- the better of two, the first where none is
abbrev pub or_better : Option Leg → Option Leg → Option Leg
or_better None other = other
or_better (Some leg) other = Some (best_of is_better_leg leg other)

-- by those of a port's networks that hold the destination
abbrev pub leg_over : Name → Ip4 → Cidr → Leg
leg_over port dst n = record { length = n.len; is_network = true; hop = record { port = port; next = dst } }

abbrev pub legs_over : Name → Ip4 → List Cidr → List Leg
legs_over port dst networks = map (leg_over port dst) (filter (λ n. contains n dst) networks)

abbrev pub port_legs : Name → Ip4 → Name × RouterPort → List Leg
port_legs router dst e = cond (same_name e.1.router router) (legs_over e.1.name dst e.1.networks) []

abbrev pub network_legs : List (Name × RouterPort) → Name → Ip4 → List Leg
network_legs ports router dst = flat_map (port_legs router dst) ports

-- by a route, through the port with the longest network that holds its next hop
abbrev pub leg_by : Route → Leg → Leg
leg_by route leg = record { length = route.prefix.len; is_network = false; hop = record { port = leg.hop.port; next = route.nexthop } }

abbrev pub leg_through : List (Name × RouterPort) → Route → Option Leg
leg_through ports route = option_map (leg_by route) (best_leg (network_legs ports route.router route.nexthop))

abbrev pub route_leg : List (Name × RouterPort) → Name → Ip4 → Name × Route → Option Leg
route_leg ports router dst e = cond (same_name e.1.router router && contains e.1.prefix dst) (leg_through ports e.1) None

abbrev pub route_legs : Network → Name → Ip4 → List (Name × Route) → List Leg
route_legs net router dst routes = filter_map (route_leg net.router_ports router dst) routes
