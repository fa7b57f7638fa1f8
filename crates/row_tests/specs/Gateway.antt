-- A small network with a gateway router: g0 joins the switch in0, where p1 is, by gi to what is behind ge.
use Rattle.std.specs.Prelude.{ℕ, true, [], ◌∷◌, Some, None, codes}
use Rattle.nb_records.specs.Network.{Network}
use Rattle.nb_records.specs.declared.balancer.BalancerProtocol.TheVariants.{Udp}
use Rattle.nb_records.specs.declared.record.Record.{Record}
use Rattle.nb_records.specs.declared.record.Record.TheVariants as row
use Rattle.nb_records.specs.declared.router.NatKind.{NatKind}
use Rattle.nb_records.specs.declared.router.NatKind.TheVariants.{Snat, Dnat}
use Rattle.nb_records.specs.declared.switch.PortAddress.TheVariants as address
use Rattle.nb_records.specs.declared.switch.PortKind.TheVariants.{Virtual, Router}
use Rattle.ovn_base.specs.addresses.EtherAddress.{mac_of}
use Rattle.ovn_base.specs.declared.address.Cidr.{Cidr}
use Rattle.ovn_base.specs.declared.name.Name.{Name}
use Rattle.row_tests.specs.Networks.{first_event, ip, prefix, server, ether, all_records}

abbrev pub g0 : Name
g0 = codes "g0"

abbrev pub gi : Name
gi = codes "gi"

abbrev pub in0 : Name
in0 = codes "in0"

abbrev pub in0_g : Name
in0_g = codes "in0-g"

-- a port of g0
abbrev pub port_of_g0 : Name → ℕ → Cidr → Record
port_of_g0 name mac network = row.RouterPort (record { name = name; birth = first_event; router = g0; mac = mac_of mac; networks = network ∷ []; peer = None })

-- a row of NAT of g0
abbrev pub nat_of_g0 : Name → NatKind → ℕ → Cidr → Record
nat_of_g0 name kind external logical = row.Nat (record { name = name; birth = first_event; router = g0; kind = kind; external_ip = ip external; logical_ip = logical })

-- p1 with its address, and the port to gi
abbrev pub virtual_port : Record
virtual_port = row.SwitchPort (record { name = codes "p1"; birth = first_event; switch = in0; kind = Virtual; router_port = None; addresses = ether ∷ []; port_security = []; enabled = true })

abbrev pub port_to_gi : Record
port_to_gi = row.SwitchPort (record { name = in0_g; birth = first_event; switch = in0; kind = Router; router_port = Some gi; addresses = address.Router ∷ []; port_security = []; enabled = true })

-- UDP of 172.16.0.100:53 to 10.0.0.2:53
abbrev pub a_resolver : Record
a_resolver = row.LoadBalancer (record {
  name = codes "lb";
  birth = first_event;
  protocol = Udp;
  vips = record { at = server 0xac100064 53; backends = server 0x0a000002 53 ∷ [] } ∷ [];
  switches = [];
  routers = g0 ∷ [];
})

abbrev pub gateway : Network
gateway = all_records (
    row.Switch (record { name = in0; birth = first_event })
    ∷ virtual_port
    ∷ port_to_gi
    ∷ row.Router (record { name = g0; birth = first_event; chassis = Some (codes "hv1") })
    ∷ port_of_g0 gi 0x0a00000000fe (prefix 0x0a0000fe 24)
    ∷ port_of_g0 (codes "ge") 0x0a00000001fe (prefix 0xac1000fe 24)
    ∷ row.Route (record { name = codes "r1"; birth = first_event; router = g0; prefix = prefix 0 0; nexthop = ip 0xac100009 })
    ∷ nat_of_g0 (codes "n0") Snat 0xac1000fe (prefix 0x0a000000 24)
    ∷ nat_of_g0 (codes "n1") Dnat 0xac1000fd (prefix 0x0a000002 32)
    ∷ a_resolver
    ∷ [])
