-- What follows from the records of switches: their ports, addresses, rules and balancers.
use Rattle.std.specs.Prelude.{◌==◌, ◌||◌, Bool, true, false, List, [], ◌∷◌, Option, Some, None, option_map, cond}
use Rattle.std.specs.Map.{values_of}
use Rattle.std.specs.List.{filter, filter_map, list_any}
use Rattle.std.specs.Option.{option_and_then}
use Rattle.ovn_base.specs.declared.address.Ip4.{Ip4}
use Rattle.ovn_base.specs.declared.address.Mac.{Mac}
use Rattle.ovn_base.specs.declared.name.Name.{Name}
use Rattle.ovn_base.specs.names.ByName.{at}
use Rattle.ovn_base.specs.names.SameName.{same_name}
use Rattle.nb_records.specs.Network.{Network}
use Rattle.nb_records.specs.declared.balancer.LoadBalancer.{LoadBalancer}
use Rattle.nb_records.specs.declared.router.RouterPort.{RouterPort}
use Rattle.nb_records.specs.declared.rule.Acl.{Acl}
use Rattle.nb_records.specs.declared.rule.PortGroup.{PortGroup}
use Rattle.nb_records.specs.declared.rule.RuleAction.{RuleAction}
use Rattle.nb_records.specs.declared.rule.RuleAction.TheVariants as action
use Rattle.nb_records.specs.declared.switch.PortAddress.{PortAddress}
use Rattle.nb_records.specs.declared.switch.PortAddress.TheVariants as address
use Rattle.nb_records.specs.declared.switch.PortKind.{PortKind}
use Rattle.nb_records.specs.declared.switch.PortKind.TheVariants as port_kind
use Rattle.nb_records.specs.declared.switch.SwitchPort.{SwitchPort}

-- ---- tests

abbrev pub same_mac : Mac → Mac → Bool
same_mac a b = a.number == b.number

abbrev pub same_ip : Ip4 → Ip4 → Bool
same_ip a b = a.0 == b.0

-- the name is among the names
abbrev pub is_named : Name → List Name → Bool
is_named name names = list_any (λ n. same_name n name) names

-- the name is the one that is given
abbrev pub is_given : Name → Option Name → Bool
is_given name None = false
is_given name (Some given) = same_name given name

-- the first answer that there is
abbrev pub or_else : {A : Type 0} → Option A → Option A → Option A
or_else (Some a) other = Some a
or_else None other = other

abbrev pub first_answer : {A X : Type 0} → (X → Option A) → List X → Option A
first_answer f [] = None
first_answer f (x ∷ xs) = or_else (f x) (first_answer f xs)

abbrev pub has_some : {X : Type 0} → List X → Bool
has_some [] = false
has_some (x ∷ xs) = true

-- ---- the ports of a switch

abbrev pub is_virtual_kind : PortKind → Bool
is_virtual_kind port_kind.Virtual = true
is_virtual_kind port_kind.Router = false

-- a virtual machine or a container is behind the port, not a router
abbrev pub is_virtual : SwitchPort → Bool
is_virtual port = is_virtual_kind port.kind

-- the ports of the switch, in order of name, and those of them that are enabled
abbrev pub switch_ports_of : Network → Name → List SwitchPort
switch_ports_of net switch = filter (λ q. same_name q.switch switch) (values_of net.switch_ports)

abbrev pub enabled_ports : Network → Name → List SwitchPort
enabled_ports net switch = filter (λ q. q.enabled) (switch_ports_of net switch)

-- the router port behind a port to a router
abbrev pub router_port_behind : Network → SwitchPort → Option RouterPort
router_port_behind net port = option_and_then (at net.router_ports) port.router_port

-- ---- addresses

abbrev pub is_unknown : PortAddress → Bool
is_unknown (address.Ether mac ips) = false
is_unknown address.Unknown = true
is_unknown address.Router = false

-- a port with these entries also gets what goes to an address that no enabled port of the switch has
abbrev pub takes_unknown : List PortAddress → Bool
takes_unknown addresses = list_any is_unknown addresses

-- the Ethernet address of an entry; `router` stands for that of the router port behind the port
abbrev pub entry_mac : Option RouterPort → PortAddress → Option Mac
entry_mac behind (address.Ether mac ips) = Some mac
entry_mac behind address.Unknown = None
entry_mac behind address.Router = option_map (λ r. r.mac) behind

-- the IPv4 addresses of an entry
abbrev pub ips_in_entry : PortAddress → List Ip4
ips_in_entry (address.Ether mac ips) = ips
ips_in_entry address.Unknown = []
ips_in_entry address.Router = []

-- the Ethernet addresses of the port
abbrev pub macs_of : Network → SwitchPort → List Mac
macs_of net port = filter_map (entry_mac (router_port_behind net port)) port.addresses

abbrev pub has_mac : Network → Mac → SwitchPort → Bool
has_mac net mac port = list_any (same_mac mac) (macs_of net port)

-- the Ethernet address that the entry gives for the IPv4 address
abbrev pub mac_in_entry : Ip4 → PortAddress → Option Mac
mac_in_entry ip (address.Ether mac ips) = cond (list_any (same_ip ip) ips) (Some mac) None
mac_in_entry ip address.Unknown = None
mac_in_entry ip address.Router = None

-- the Ethernet address with which the port holds the IPv4 address: one that stands in several entries counts for the first
abbrev pub mac_of_ip : Ip4 → SwitchPort → Option Mac
mac_of_ip ip port = first_answer (mac_in_entry ip) port.addresses

-- ---- rules

-- the group has a port of the switch
abbrev pub has_port_of : Network → Name → PortGroup → Bool
has_port_of net switch group = list_any (λ q. is_named q.name group.ports) (switch_ports_of net switch)

abbrev pub covers : Network → Name → Option PortGroup → Bool
covers net switch None = false
covers net switch (Some group) = has_port_of net switch group

-- the rule applies to the switch: it is one of the switch, or of a port group that has a port of it
abbrev pub applies : Network → Name → Acl → Bool
applies net switch rule = is_given switch rule.switch || covers net switch (option_and_then (at net.port_groups) rule.port_group)

-- the rules that apply to the switch, in order of name
abbrev pub rules_of : Network → Name → List Acl
rules_of net switch = filter (applies net switch) (values_of net.acls)

abbrev pub is_related : RuleAction → Bool
is_related action.AllowRelated = true
is_related _ = false

-- an allow-related rule applies to the switch, whatever its direction and its match
abbrev pub is_stateful : Network → Name → Bool
is_stateful net switch = list_any (λ rule. is_related rule.action) (rules_of net switch)

-- ---- balancers

-- the balancer serves the switch or router
abbrev pub serves_at : Name → LoadBalancer → Bool
serves_at datapath balancer = is_named datapath balancer.switches || is_named datapath balancer.routers

-- those that do, in order of name
abbrev pub balancers_of : Network → Name → List LoadBalancer
balancers_of net datapath = filter (serves_at datapath) (values_of net.load_balancers)

-- one serves it, also one without virtual addresses
abbrev pub has_balancer : Network → Name → Bool
has_balancer net datapath = has_some (balancers_of net datapath)
