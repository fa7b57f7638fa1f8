-- Addresses that two hold.
use Rattle.std.specs.Prelude.{◌&&◌, ◌||◌, ◌++◌, ℕ, Bool, true, false, cond, List, [], ◌∷◌, map, flat_map, Option, Some, None, option_map}
use Rattle.std.specs.Cmp.Lexicographic.{slice_cmp}
use Rattle.std.specs.List.{list_any}
use Rattle.std.specs.Ordering.{nat_cmp, is_lt}
use Rattle.ovn_base.specs.declared.address.Backend.{Backend}
use Rattle.ovn_base.specs.declared.address.Cidr.{Cidr}
use Rattle.ovn_base.specs.declared.address.Ip4.{Ip4}
use Rattle.ovn_base.specs.declared.address.Mac.{Mac}
use Rattle.ovn_base.specs.declared.name.Name.{Name}
use Rattle.ovn_base.specs.names.SameName.{same_name}
use Rattle.nb_records.specs.Network.{Network, same_backend}
use Rattle.nb_records.specs.Routers.{has_own_ip, served_ips, answers_if}
use Rattle.nb_records.specs.Switches.{same_ip, or_else, router_port_behind, ips_in_entry, macs_of, has_mac, serves_at}
use Rattle.nb_records.specs.declared.balancer.BalancerProtocol.{BalancerProtocol}
use Rattle.nb_records.specs.declared.balancer.BalancerProtocol.TheVariants as protocol
use Rattle.nb_records.specs.declared.balancer.LoadBalancer.{LoadBalancer}
use Rattle.nb_records.specs.declared.balancer.Vip.{Vip}
use Rattle.nb_records.specs.declared.router.Router.{Router}
use Rattle.nb_records.specs.declared.router.RouterPort.{RouterPort}
use Rattle.nb_records.specs.declared.router.StaticMac.{StaticMac}
use Rattle.nb_records.specs.declared.switch.PortAddress.{PortAddress}
use Rattle.nb_records.specs.declared.switch.PortKind.{PortKind}
use Rattle.nb_records.specs.declared.switch.PortKind.TheVariants as port_kind
use Rattle.nb_records.specs.declared.switch.Switch.{Switch}
use Rattle.nb_records.specs.declared.switch.SwitchPort.{SwitchPort}
use Rattle.nb_rules.specs.First.{first_of, has_second, least_of}
use Rattle.nb_rules.specs.declared.fault.Address.TheVariants as held
use Rattle.nb_rules.specs.declared.fault.SchemaFault.{SchemaFault}
use Rattle.nb_rules.specs.declared.fault.SchemaFault.TheVariants as fault

abbrev pub mac_number_of : Mac → ℕ
mac_number_of mac = mac.number

abbrev pub ip_number : Ip4 → ℕ
ip_number ip = ip.0

abbrev pub the_mac : Mac → Mac
the_mac mac = mac

abbrev pub the_ip : Ip4 → Ip4
the_ip ip = ip

abbrev pub network_ip : Cidr → Ip4
network_ip n = n.addr

abbrev pub vip_ip : Vip → Ip4
vip_ip v = v.at.ip

abbrev pub bound_ip : Name × StaticMac → Ip4
bound_ip e = e.1.ip

-- the first name comes before the second
abbrev pub is_before : Name → Name → Bool
is_before a b = is_lt (slice_cmp nat_cmp a b)

-- ---- ports of one switch

-- the other is a port of the same switch, before it in order of name
abbrev pub is_switch_mate : SwitchPort → SwitchPort → Bool
is_switch_mate q other = same_name other.switch q.switch && is_before other.name q.name

-- a port of the switch before this one passes the test
abbrev pub has_mate : Network → SwitchPort → (SwitchPort → Bool) → Bool
has_mate net q test = list_any (λ (e : Name × SwitchPort). is_switch_mate q e.1 && test e.1) net.switch_ports

-- a port of the switch before this one has the Ethernet address
abbrev pub is_mac_shared : Network → SwitchPort → Mac → Bool
is_mac_shared net q mac = has_mate net q (has_mac net mac)

-- the least of the port's that a port before it has
abbrev pub shared_mac : Network → SwitchPort → Option Mac
shared_mac net q = least_of mac_number_of the_mac (is_mac_shared net q) None (macs_of net q)

abbrev pub has_entry_ip : Ip4 → PortAddress → Bool
has_entry_ip ip a = list_any (same_ip ip) (ips_in_entry a)

-- the addresses of its networks
abbrev pub own_ips : RouterPort → List Ip4
own_ips p = map (λ n. n.addr) p.networks

-- the addresses under which the router port, or its router, is known
abbrev pub known_ips : Network → Option RouterPort → List Ip4
known_ips net None = []
known_ips net (Some p) = own_ips p ++ served_ips net p.router

-- the IPv4 addresses that the port may hold: those of its entries, or those of the router port behind it
abbrev pub ips_by_kind : Network → SwitchPort → PortKind → List Ip4
ips_by_kind net q port_kind.Virtual = flat_map ips_in_entry q.addresses
ips_by_kind net q port_kind.Router = known_ips net (router_port_behind net q)

-- a virtual port holds the addresses of its entries, and a port to a router those that its partner answers for
abbrev pub holds_by_kind : Network → Ip4 → SwitchPort → PortKind → Bool
holds_by_kind net ip q port_kind.Virtual = list_any (has_entry_ip ip) q.addresses
holds_by_kind net ip q port_kind.Router = answers_if net ip (router_port_behind net q)

abbrev pub holds_ip : Network → Ip4 → SwitchPort → Bool
holds_ip net ip q = holds_by_kind net ip q q.kind

-- the port holds the address, and a port before it does
abbrev pub is_ip_shared : Network → SwitchPort → Ip4 → Bool
is_ip_shared net q ip = holds_ip net ip q && has_mate net q (holds_ip net ip)

abbrev pub least_shared : Network → SwitchPort → Option Ip4 → List Ip4 → Option Ip4
least_shared net q so_far ips = least_of ip_number the_ip (is_ip_shared net q) so_far ips

-- the least of the virtual addresses of the router's balancers, balancer by balancer
abbrev pub least_of_balancers : Network → SwitchPort → Name → Option Ip4 → List (Name × LoadBalancer) → Option Ip4
least_of_balancers net q router so_far [] = so_far
least_of_balancers net q router so_far (e ∷ es) = least_of_balancers net q router (cond (serves_at router e.1) (least_shared net q so_far (map (λ v. v.at.ip) e.1.vips)) so_far) es

-- the least IPv4 address that the port holds and that a port before it holds
abbrev pub shared_ip : Network → SwitchPort → Option Ip4
shared_ip net q = least_shared net q None (ips_by_kind net q q.kind)

-- ---- networks of one router

-- the other is a port of the same router, before it in order of name
abbrev pub is_router_mate : RouterPort → RouterPort → Bool
is_router_mate p other = same_name other.router p.router && is_before other.name p.name

-- the address stands twice among the port's networks, or in one of a port of the router before it
abbrev pub is_repeated_ip : Network → RouterPort → Cidr → Bool
is_repeated_ip net p n =
    has_second (λ (m : Cidr). same_ip n.addr m.addr) false p.networks
    || list_any (λ (e : Name × RouterPort). is_router_mate p e.1 && has_own_ip n.addr e.1) net.router_ports

-- the least of these
abbrev pub repeated_ip : Network → RouterPort → Option Ip4
repeated_ip net p = least_of ip_number network_ip (is_repeated_ip net p) None p.networks

-- ---- balancers of one datapath

abbrev pub same_protocol : BalancerProtocol → BalancerProtocol → Bool
same_protocol protocol.Tcp protocol.Tcp = true
same_protocol protocol.Udp protocol.Udp = true
same_protocol _ _ = false

-- a virtual address with its port
abbrev pub has_vip_at : Backend → LoadBalancer → Bool
has_vip_at at b = list_any (λ v. same_backend at v.at) b.vips

-- the other is a balancer of the datapath, before this one in order of name
abbrev pub is_balancer_before : Name → LoadBalancer → LoadBalancer → Bool
is_balancer_before datapath b other = serves_at datapath other && is_before other.name b.name

-- a balancer of the datapath before this one, of its protocol, has the virtual address
abbrev pub is_taken_vip : Network → Name → LoadBalancer → Vip → Bool
is_taken_vip net datapath b v =
    list_any (λ (e : Name × LoadBalancer). is_balancer_before datapath b e.1 && (same_protocol e.1.protocol b.protocol && has_vip_at v.at e.1)) net.load_balancers

-- the least of the balancer's that are taken, and of the one so far, where the balancer serves the datapath
abbrev pub taken_vip : Network → Name → Option Ip4 → LoadBalancer → Option Ip4
taken_vip net datapath so_far b = cond (serves_at datapath b) (least_of ip_number vip_ip (is_taken_vip net datapath b) so_far b.vips) so_far

abbrev pub repeated_vip_from : Network → Name → Option Ip4 → List (Name × LoadBalancer) → Option Ip4
repeated_vip_from net datapath so_far [] = so_far
repeated_vip_from net datapath so_far (e ∷ es) = repeated_vip_from net datapath (taken_vip net datapath so_far e.1) es

-- the least virtual address that two balancers of the datapath have, with one port and protocol
abbrev pub repeated_vip : Network → Name → Option Ip4
repeated_vip net datapath = repeated_vip_from net datapath None net.load_balancers

-- ---- static bindings of one port

abbrev pub binds : Name → Ip4 → StaticMac → Bool
binds port ip s = same_name s.port port && same_ip ip s.ip

-- the binding is one of the port, and another has its address
abbrev pub is_bound_twice : Network → Name → StaticMac → Bool
is_bound_twice net port s = same_name s.port port && has_second (λ (e : Name × StaticMac). binds port s.ip e.1) false net.static_macs

-- the least address that two static bindings of the port have
abbrev pub bound_twice : Network → Name → Option Ip4
bound_twice net port = least_of ip_number bound_ip (λ (e : Name × StaticMac). is_bound_twice net port e.1) None net.static_macs

-- ---- the clause

-- the one whose holder comes first in order of name
abbrev pub first_holder : {A : Type 0} → Option (Name × A) → Option (Name × A) → Option (Name × A)
first_holder (Some a) (Some b) = cond (is_before b.0 a.0) (Some b) (Some a)
first_holder a None = a
first_holder None b = b

abbrev pub mac_fault : Network → SwitchPort → Option SchemaFault
mac_fault net q = option_map (λ (mac : Mac). fault.DuplicateAddress (held.Ether mac) q.name) (shared_mac net q)

abbrev pub twice : Name → Ip4 → SchemaFault
twice holder ip = fault.DuplicateAddress (held.Ip ip) holder

abbrev pub ip_fault : Name → Option Ip4 → Option SchemaFault
ip_fault holder ip = option_map (twice holder) ip

abbrev pub holder_fault : Option (Name × Ip4) → Option SchemaFault
holder_fault found = option_map (λ (h : Name × Ip4). twice h.0 h.1) found

abbrev pub held_by : Name → Ip4 → Name × Ip4
held_by holder ip = (holder, ip)

abbrev pub vip_holder : Network → Name → Option (Name × Ip4)
vip_holder net datapath = option_map (held_by datapath) (repeated_vip net datapath)

-- two ports of one switch have one Ethernet address
abbrev pub twice_mac : Network → Option SchemaFault
twice_mac net = first_of (mac_fault net) net.switch_ports

-- two ports of one switch hold one IPv4 address
abbrev pub twice_ip : Network → Option SchemaFault
twice_ip net = first_of (λ (q : SwitchPort). ip_fault q.name (shared_ip net q)) net.switch_ports

-- one address stands twice among the networks of a router
abbrev pub twice_own : Network → Option SchemaFault
twice_own net = first_of (λ (p : RouterPort). ip_fault p.name (repeated_ip net p)) net.router_ports

-- one virtual address, port and protocol stands twice on a datapath
abbrev pub twice_vip : Network → Option SchemaFault
twice_vip net = holder_fault (first_holder (first_of (λ (s : Switch). vip_holder net s.name) net.switches) (first_of (λ (r : Router). vip_holder net r.name) net.routers))

-- two static bindings are of one port and address
abbrev pub twice_bound : Network → Option SchemaFault
twice_bound net = first_of (λ (p : RouterPort). ip_fault p.name (bound_twice net p.name)) net.router_ports

-- two hold an address; the first holder counts, and of its addresses the least
unfoldable pub duplicate_address : Network → Option SchemaFault
duplicate_address net = or_else (twice_mac net) (or_else (twice_ip net) (or_else (twice_own net) (or_else (twice_vip net) (twice_bound net))))
