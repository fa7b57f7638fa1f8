-- Small networks: a switch s0 with the port p1, and what else a row needs.
use Rattle.std.specs.Prelude.{ℕ, true, false, List, [], ◌∷◌, Some, None, codes}
use Rattle.match_language.specs.declared.expr.Expr.TheVariants as e
use Rattle.match_language.specs.declared.field.Direction.TheVariants.{FromLport}
use Rattle.match_language.specs.declared.field.Predicate.TheVariants as p
use Rattle.nb_records.specs.Network.{Network, empty_network, with_record, marked}
use Rattle.nb_records.specs.declared.balancer.BalancerProtocol.TheVariants.{Tcp}
use Rattle.nb_records.specs.declared.record.Record.{Record}
use Rattle.nb_records.specs.declared.record.Record.TheVariants as row
use Rattle.nb_records.specs.declared.rule.RuleAction.{RuleAction}
use Rattle.nb_records.specs.declared.switch.PortAddress.{PortAddress}
use Rattle.nb_records.specs.declared.switch.PortAddress.TheVariants as address
use Rattle.nb_records.specs.declared.switch.PortKind.TheVariants.{Virtual}
use Rattle.nb_records.specs.declared.switch.SecurityEntry.{SecurityEntry}
use Rattle.ovn_base.specs.addresses.EtherAddress.{mac_of}
use Rattle.ovn_base.specs.declared.address.Backend.{Backend}
use Rattle.ovn_base.specs.declared.address.Birth.{Birth}
use Rattle.ovn_base.specs.declared.address.Cidr.{Cidr}
use Rattle.ovn_base.specs.declared.address.Ip4.{Ip4}
use Rattle.ovn_base.specs.declared.name.Name.{Name}

abbrev pub s0 : Name
s0 = codes "s0"

abbrev pub p1 : Name
p1 = codes "p1"

abbrev pub first_event : Birth
first_event = record { 0 = 1 }

abbrev pub ip : ℕ → Ip4
ip n = record { 0 = n }

abbrev pub prefix : ℕ → ℕ → Cidr
prefix n len = record { addr = ip n; len = len }

abbrev pub server : ℕ → ℕ → Backend
server n port = record { ip = ip n; port = port }

abbrev pub all_records : List Record → Network
all_records [] = empty_network
all_records (r ∷ rs) = with_record (all_records rs) r

abbrev pub a_switch : Record
a_switch = row.Switch (record { name = s0; birth = first_event })

-- p1 with these addresses and this port security
abbrev pub a_port : List PortAddress → List SecurityEntry → Record
a_port addresses security =
    row.SwitchPort (record { name = p1; birth = first_event; switch = s0; kind = Virtual; router_port = None; addresses = addresses; port_security = security; enabled = true })

-- 0a:00:00:00:00:01, with the prefixes
abbrev pub entry : List Cidr → SecurityEntry
entry ips = record { mac = mac_of 0x0a0000000001; ips = ips }

-- 0a:00:00:00:00:01 10.0.0.1
abbrev pub ether : PortAddress
ether = address.Ether (mac_of 0x0a0000000001) (ip 0x0a000001 ∷ [])

abbrev pub with_security : List SecurityEntry → Network
with_security security = all_records (a_switch ∷ a_port (ether ∷ []) security ∷ [])

abbrev pub with_addresses : List PortAddress → Network
with_addresses addresses = all_records (a_switch ∷ a_port addresses [] ∷ [])

-- udp, of priority 1000
abbrev pub a_rule : RuleAction → Record
a_rule does = row.Acl (record { name = codes "a1"; birth = first_event; switch = Some s0; port_group = None; direction = FromLport; priority = 1000; matching = e.Is p.Udp; action = does })

abbrev pub with_rule : RuleAction → Network
with_rule does = all_records (a_switch ∷ a_port (ether ∷ []) [] ∷ a_rule does ∷ [])

-- 10.0.0.100:80 to 10.0.0.2:8080 and 10.0.0.3:8080, of which the second is offline
abbrev pub a_balancer : Record
a_balancer = row.LoadBalancer (record {
  name = codes "lb";
  birth = first_event;
  protocol = Tcp;
  vips = record { at = server 0x0a000064 80; backends = server 0x0a000002 8080 ∷ server 0x0a000003 8080 ∷ [] } ∷ [];
  switches = s0 ∷ [];
  routers = [];
})

abbrev pub with_balancer : Network
with_balancer = marked (all_records (a_switch ∷ a_port (ether ∷ []) [] ∷ a_balancer ∷ [])) (codes "lb") (server 0x0a000003 8080) false
