-- Facts of the network that rows follow from: addresses in order, each once.
use Rattle.std.specs.Prelude.{Bool, List, [], ◌∷◌, ◌++◌, map, flat_map, filter, Option, Some, None}
use Rattle.std.specs.BTreeSet.{insert_key}
use Rattle.std.specs.List.{list_any}
use Rattle.std.specs.Ordering.{nat_cmp, on}
use Rattle.std.specs.declared.cmp.Ordering.{Ordering}
use Rattle.ovn_base.specs.declared.address.Ip4.{Ip4}
use Rattle.ovn_base.specs.declared.name.Name.{Name}
use Rattle.ovn_base.specs.names.ByName.{at}
use Rattle.nb_records.specs.Network.{Network}
use Rattle.nb_records.specs.Routers.{contains, served_ips}
use Rattle.nb_records.specs.Switches.{ips_in_entry}
use Rattle.nb_records.specs.declared.router.RouterPort.{RouterPort}
use Rattle.nb_records.specs.declared.switch.SwitchPort.{SwitchPort}

-- addresses by their number
abbrev pub ip_cmp : Ip4 → Ip4 → Ordering
ip_cmp = on (λ (ip : Ip4). ip.0) nat_cmp

-- the addresses in order, each once
abbrev pub ips_in_order : List Ip4 → List Ip4
ips_in_order [] = []
ips_in_order (ip ∷ ips) = insert_key ip_cmp (ips_in_order ips) ip

-- the addresses of the port's own
abbrev pub own_ips : RouterPort → List Ip4
own_ips p = map (λ n. n.addr) p.networks

-- those served addresses of its router that lie in one of its networks
abbrev pub is_near : RouterPort → Ip4 → Bool
is_near p ip = list_any (λ n. contains n ip) p.networks

abbrev pub near_ips : Network → RouterPort → List Ip4
near_ips net p = filter (is_near p) (served_ips net p.router)

-- the addresses that the router port answers
abbrev pub answered_ips : Network → RouterPort → List Ip4
answered_ips net p = ips_in_order (own_ips p ++ near_ips net p)

-- those of the port of that name
abbrev pub answered_if : Network → Option RouterPort → List Ip4
answered_if net None = []
answered_if net (Some p) = answered_ips net p

abbrev pub answered_named : Network → Name → List Ip4
answered_named net name = answered_if net (at net.router_ports name)

-- the IPv4 addresses of a switch port's entries
abbrev pub port_ips : SwitchPort → List Ip4
port_ips q = flat_map ips_in_entry q.addresses
