-- Operations, for short.
use Rattle.std.specs.Prelude.{ℕ, true, List, [], ◌∷◌, Option, Some, None}
use Rattle.match_language.specs.declared.expr.Expr.{Expr}
use Rattle.match_language.specs.declared.field.Direction.{Direction}
use Rattle.nb_records.specs.declared.balancer.BalancerProtocol.{BalancerProtocol}
use Rattle.nb_records.specs.declared.change.Change.TheVariants as change
use Rattle.nb_records.specs.declared.change.Op.{Op}
use Rattle.nb_records.specs.declared.change.Op.TheVariants as op
use Rattle.nb_records.specs.declared.kinds.Kind.TheVariants as kind
use Rattle.nb_records.specs.declared.record.Record.TheVariants as row
use Rattle.nb_records.specs.declared.router.NatKind.{NatKind}
use Rattle.nb_records.specs.declared.rule.RuleAction.{RuleAction}
use Rattle.nb_records.specs.declared.switch.PortAddress.{PortAddress}
use Rattle.nb_records.specs.declared.switch.PortAddress.TheVariants as address
use Rattle.nb_records.specs.declared.switch.PortKind.TheVariants as port_kind
use Rattle.ovn_base.specs.addresses.EtherAddress.{mac_of}
use Rattle.ovn_base.specs.declared.address.Backend.{Backend}
use Rattle.ovn_base.specs.declared.address.Birth.{Birth}
use Rattle.ovn_base.specs.declared.address.Cidr.{Cidr}
use Rattle.ovn_base.specs.declared.address.Ip4.{Ip4}
use Rattle.ovn_base.specs.declared.name.Name.{Name}

abbrev pub ip : ℕ → Ip4
ip n = record { 0 = n }

abbrev pub prefix : ℕ → ℕ → Cidr
prefix n len = record { addr = ip n; len = len }

-- of a record that is still to be added
abbrev pub unborn : Birth
unborn = record { 0 = 0 }

-- an Ethernet address, with one IPv4 address
abbrev pub ether : ℕ → ℕ → PortAddress
ether mac n = address.Ether (mac_of mac) (ip n ∷ [])

abbrev pub add_switch : Name → Op
add_switch name = op.Add (row.Switch (record { name = name; birth = unborn }))

abbrev pub add_virtual_port : Name → Name → List PortAddress → Op
add_virtual_port name switch addresses = op.Add (row.SwitchPort (record { name = name; birth = unborn; switch = switch; kind = port_kind.Virtual; router_port = None; addresses = addresses; port_security = []; enabled = true }))

-- one that has an Ethernet address alone
abbrev pub add_lone_port : Name → Name → ℕ → Op
add_lone_port name switch mac = add_virtual_port name switch (address.Ether (mac_of mac) [] ∷ [])

-- a port to a router, with the router port's address
abbrev pub add_port_to_router : Name → Name → Name → Op
add_port_to_router name switch router_port = op.Add (row.SwitchPort (record { name = name; birth = unborn; switch = switch; kind = port_kind.Router; router_port = Some router_port; addresses = address.Router ∷ []; port_security = []; enabled = true }))

abbrev pub add_router : Name → Option Name → Op
add_router name chassis = op.Add (row.Router (record { name = name; birth = unborn; chassis = chassis }))

abbrev pub add_router_port : Name → Name → ℕ → Cidr → Option Name → Op
add_router_port name router mac network peer = op.Add (row.RouterPort (record { name = name; birth = unborn; router = router; mac = mac_of mac; networks = network ∷ []; peer = peer }))

abbrev pub add_route : Name → Name → Cidr → ℕ → Op
add_route name router prefix nexthop = op.Add (row.Route (record { name = name; birth = unborn; router = router; prefix = prefix; nexthop = ip nexthop }))

abbrev pub add_nat : Name → Name → NatKind → ℕ → Cidr → Op
add_nat name router way external logical = op.Add (row.Nat (record { name = name; birth = unborn; router = router; kind = way; external_ip = ip external; logical_ip = logical }))

abbrev pub backend : ℕ → ℕ → Backend
backend n port = record { ip = ip n; port = port }

-- a balancer of switches, with one virtual address
abbrev pub add_balancer : Name → BalancerProtocol → Backend → List Backend → List Name → Op
add_balancer name protocol vip backends switches = op.Add (row.LoadBalancer (record { name = name; birth = unborn; protocol = protocol; vips = record { at = vip; backends = backends } ∷ []; switches = switches; routers = [] }))

-- a rule of a switch, of the priority that all rules have here
abbrev pub add_rule_at : ℕ → Name → Name → Direction → Expr → RuleAction → Op
add_rule_at priority name switch way matching action = op.Add (row.Acl (record { name = name; birth = unborn; switch = Some switch; port_group = None; direction = way; priority = priority; matching = matching; action = action }))

abbrev pub add_rule : Name → Name → Direction → Expr → RuleAction → Op
add_rule = add_rule_at 1000

-- a rule of the switches of a group's ports
abbrev pub add_group_rule : Name → Name → Direction → Expr → RuleAction → Op
add_group_rule name group way matching action = op.Add (row.Acl (record { name = name; birth = unborn; switch = None; port_group = Some group; direction = way; priority = 1000; matching = matching; action = action }))

abbrev pub add_group : Name → List Name → Op
add_group name ports = op.Add (row.PortGroup (record { name = name; birth = unborn; ports = ports }))

-- ---- changes

-- the port may send from this Ethernet address alone, with these IPv4 addresses
abbrev pub secure_port : Name → ℕ → Cidr → Op
secure_port name mac prefix = op.Set kind.SwitchPort name (change.SwitchPort None (Some (record { mac = mac_of mac; ips = prefix ∷ [] } ∷ [])) None)

abbrev pub readdress_port : Name → List PortAddress → Op
readdress_port name addresses = op.Set kind.SwitchPort name (change.SwitchPort (Some addresses) None None)

-- the rule has another action
abbrev pub redo_rule : Name → RuleAction → Op
redo_rule name action = op.Set kind.Acl name (change.Acl None None (Some action))

abbrev pub remove_port : Name → Op
remove_port name = op.Remove kind.SwitchPort name
