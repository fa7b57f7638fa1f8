-- Ways of a router to a destination: its networks and its routes.
use Rattle.std.specs.Prelude.{◌==◌, ◌&&◌, ◌||◌, ◌++◌, nat_lt, ℕ, Bool, true, false, not, List, [], ◌∷◌, map, flat_map, Option, Some, None, option_map, cond}
use Rattle.std.specs.Map.{values_of}
use Rattle.std.specs.List.{filter, filter_map}
use Rattle.ovn_base.specs.declared.address.Ip4.{Ip4}
use Rattle.ovn_base.specs.declared.name.Name.{Name}
use Rattle.ovn_base.specs.names.SameName.{same_name}
use Rattle.nb_records.specs.Network.{Network}
use Rattle.nb_records.specs.Routers.{contains, router_ports_of}
use Rattle.nb_records.specs.declared.router.Route.{Route}
use Rattle.nb_records.specs.declared.router.RouterPort.{RouterPort}

-- ---- the best of several

-- the first that no other beats
abbrev pub best_of : {X : Type 0} → (X → X → Bool) → X → Option X → X
best_of beats x None = x
best_of beats x (Some y) = cond (beats y x) y x

abbrev pub best_by : {X : Type 0} → (X → X → Bool) → List X → Option X
best_by beats [] = None
best_by beats (x ∷ xs) = Some (best_of beats x (best_by beats xs))

-- ---- ways

-- the port by which a packet leaves, and the address of the next router or of the destination
pub record NextHop : Type 0 where
  pub port : RouterPort
  pub next : Ip4

-- a way by a network or a route, with the length of its prefix
pub record Way : Type 0 where
  pub length : ℕ
  pub is_network : Bool
  pub hop : NextHop

-- the longer prefix is taken, and at equal length a network before a route
abbrev pub is_better_way : Way → Way → Bool
is_better_way a b = nat_lt b.length a.length || ((a.length == b.length) && (a.is_network && not b.is_network))

-- the networks of the port that hold the destination: the next hop is the destination
abbrev pub ways_of_port : Ip4 → RouterPort → List Way
ways_of_port dst p = map (λ n. record { length = n.len; is_network = true; hop = record { port = p; next = dst } }) (filter (λ n. contains n dst) p.networks)

abbrev pub network_ways : Network → Name → Ip4 → List Way
network_ways net router dst = flat_map (ways_of_port dst) (router_ports_of net router)

-- a route leaves by the port with the longest network that holds its next hop
abbrev pub by_route : Route → Way → Way
by_route route w = record { length = route.prefix.len; is_network = false; hop = record { port = w.hop.port; next = route.nexthop } }

abbrev pub route_way : Network → Ip4 → Route → Option Way
route_way net dst route = cond (contains route.prefix dst) (option_map (by_route route) (best_by is_better_way (network_ways net route.router route.nexthop))) None

abbrev pub routes_of : Network → Name → List Route
routes_of net router = filter (λ r. same_name r.router router) (values_of net.routes)

-- the longest prefix of the router's networks and routes that holds the destination
abbrev pub route_of : Network → Name → Ip4 → Option NextHop
route_of net router dst = option_map (λ w. w.hop) (best_by is_better_way (network_ways net router dst ++ filter_map (route_way net dst) (routes_of net router)))
