-- What follows from the records of routers: their ports, who translates, partners, and who answers for an address.
use Rattle.std.specs.Prelude.{◌==◌, ◌&&◌, ◌||◌, ◌++◌, ◌-◌, ◌/◌, ◌^◌, Bool, true, false, List, map, flat_map, Option, Some, None, option_map, is_some}
use Rattle.std.specs.Map.{values_of}
use Rattle.std.specs.List.{filter, find, list_any}
use Rattle.ovn_base.specs.declared.address.Cidr.{Cidr}
use Rattle.ovn_base.specs.declared.address.Ip4.{Ip4}
use Rattle.ovn_base.specs.declared.name.Name.{Name}
use Rattle.ovn_base.specs.names.ByName.{at}
use Rattle.ovn_base.specs.names.SameName.{same_name}
use Rattle.nb_records.specs.Network.{Network}
use Rattle.nb_records.specs.Switches.{same_ip, is_given, has_some, router_port_behind, balancers_of, has_balancer}
use Rattle.nb_records.specs.declared.balancer.LoadBalancer.{LoadBalancer}
use Rattle.nb_records.specs.declared.router.Nat.{Nat}
use Rattle.nb_records.specs.declared.router.NatKind.{NatKind}
use Rattle.nb_records.specs.declared.router.NatKind.TheVariants as nat_kind
use Rattle.nb_records.specs.declared.router.Router.{Router}
use Rattle.nb_records.specs.declared.router.RouterPort.{RouterPort}
use Rattle.nb_records.specs.declared.switch.SwitchPort.{SwitchPort}

-- the prefix has the address: the first bits of both are the same
abbrev pub contains : Cidr → Ip4 → Bool
contains prefix ip = (ip.0 / 2 ^ (32 - prefix.len)) == (prefix.addr.0 / 2 ^ (32 - prefix.len))

-- ---- the ports of a router

abbrev pub router_ports_of : Network → Name → List RouterPort
router_ports_of net router = filter (λ p. same_name p.router router) (values_of net.router_ports)

-- the address is one of the port's own
abbrev pub has_own_ip : Ip4 → RouterPort → Bool
has_own_ip ip port = list_any (λ n. same_ip ip n.addr) port.networks

-- the address is one of a port of the router
abbrev pub is_own_ip : Network → Name → Ip4 → Bool
is_own_ip net router ip = list_any (has_own_ip ip) (router_ports_of net router)

-- ---- translations

-- a row of this kind translates the sources of what leaves, and the destinations of what comes
abbrev pub translates_sources : NatKind → Bool
translates_sources nat_kind.Snat = true
translates_sources nat_kind.Dnat = false
translates_sources nat_kind.DnatAndSnat = true

abbrev pub translates_destinations : NatKind → Bool
translates_destinations nat_kind.Snat = false
translates_destinations nat_kind.Dnat = true
translates_destinations nat_kind.DnatAndSnat = true

abbrev pub nats_of : Network → Name → List Nat
nats_of net router = filter (λ r. same_name r.router router) (values_of net.nats)

abbrev pub is_gateway : Router → Bool
is_gateway router = is_some router.chassis

-- a gateway router with a NAT row or a balancer translates
abbrev pub translates : Network → Router → Bool
translates net router = is_gateway router && (has_some (nats_of net router.name) || has_balancer net router.name)

-- ---- partners

-- where a packet goes on that leaves a datapath by a port: in a switch, at this port of it, or in a router
pub data Partner : Type 0 where
  switch_side : SwitchPort → Partner
  router_side : RouterPort → Partner

-- the switch port behind which the router port is
abbrev pub switch_port_before : Network → RouterPort → Option SwitchPort
switch_port_before net p = find (λ (q : SwitchPort). is_given p.name q.router_port) (values_of net.switch_ports)

-- the router port that it names as its peer, or else one that names it
abbrev pub peer_by : Network → Name → Option Name → Option RouterPort
peer_by net name (Some peer) = at net.router_ports peer
peer_by net name None = find (λ (p : RouterPort). is_given name p.peer) (values_of net.router_ports)

abbrev pub switch_side_or : Option RouterPort → Option SwitchPort → Option Partner
switch_side_or peer (Some q) = Some (switch_side q)
switch_side_or peer None = option_map router_side peer

-- the partner of a router port, and of a switch port
abbrev pub partner_of_router_port : Network → RouterPort → Option Partner
partner_of_router_port net p = switch_side_or (peer_by net p.name p.peer) (switch_port_before net p)

abbrev pub partner_of_switch_port : Network → SwitchPort → Option Partner
partner_of_switch_port net q = option_map router_side (router_port_behind net q)

-- ---- who answers for an address

-- the balancer has the virtual address, at some port
abbrev pub has_vip : Ip4 → LoadBalancer → Bool
has_vip ip balancer = list_any (λ v. same_ip ip v.at.ip) balancer.vips

-- the addresses under which the router's NAT rows and balancers are known outside
abbrev pub served_ips : Network → Name → List Ip4
served_ips net router = map (λ r. r.external_ip) (nats_of net router) ++ flat_map (λ b. map (λ v. v.at.ip) b.vips) (balancers_of net router)

-- a router port answers for its own addresses, and for those served addresses of its router that lie in one of its networks
abbrev pub answers : Network → RouterPort → Ip4 → Bool
answers net p ip = has_own_ip ip p || (list_any (same_ip ip) (served_ips net p.router) && list_any (λ n. contains n ip) p.networks)

-- the same of the port of that name, where it is there
abbrev pub answers_if : Network → Ip4 → Option RouterPort → Bool
answers_if net ip None = false
answers_if net ip (Some p) = answers net p ip

abbrev pub answers_named : Network → Name → Ip4 → Bool
answers_named net name ip = answers_if net ip (at net.router_ports name)
