-- The Ethernet addresses of a router port's neighbours.
use Rattle.std.specs.Prelude.{◌&&◌, not, Option, Some, None, option_map, cond}
use Rattle.std.specs.Map.{values_of}
use Rattle.std.specs.List.{filter, filter_map, find}
use Rattle.ovn_base.specs.declared.address.Ip4.{Ip4}
use Rattle.ovn_base.specs.declared.address.Mac.{Mac}
use Rattle.ovn_base.specs.declared.name.Name.{Name}
use Rattle.ovn_base.specs.names.SameName.{same_name}
use Rattle.nb_records.specs.Network.{Network}
use Rattle.nb_records.specs.Routers.{Partner, switch_side, router_side, partner_of_router_port, answers}
use Rattle.nb_records.specs.Switches.{same_ip, or_else, first_answer, is_virtual, enabled_ports, router_port_behind, mac_of_ip}
use Rattle.nb_records.specs.declared.router.RouterPort.{RouterPort}
use Rattle.nb_records.specs.declared.router.StaticMac.{StaticMac}

-- the static binding of the port and the address
abbrev pub static_neighbour : Network → RouterPort → Ip4 → Option Mac
static_neighbour net p ip = option_map (λ (s : StaticMac). s.mac) (find (λ (s : StaticMac). same_name s.port p.name && same_ip s.ip ip) (values_of net.static_macs))

-- that of an enabled virtual port of the switch that holds the address
abbrev pub virtual_neighbour : Network → Name → Ip4 → Option Mac
virtual_neighbour net switch ip = first_answer (mac_of_ip ip) (filter is_virtual (enabled_ports net switch))

-- that of another router port on the switch, by an enabled port, that answers for the address
abbrev pub answering_mac : Network → Name → Ip4 → RouterPort → Option Mac
answering_mac net p ip r = cond (not (same_name r.name p) && answers net r ip) (Some r.mac) None

abbrev pub router_neighbour : Network → Name → Name → Ip4 → Option Mac
router_neighbour net p switch ip = first_answer (answering_mac net p ip) (filter_map (router_port_behind net) (enabled_ports net switch))

-- on the partner's side; a directly joined router port answers for itself
abbrev pub joined_neighbour : Network → RouterPort → Ip4 → Option Partner → Option Mac
joined_neighbour net p ip None = None
joined_neighbour net p ip (Some (switch_side q)) = or_else (virtual_neighbour net q.switch ip) (router_neighbour net p.name q.switch ip)
joined_neighbour net p ip (Some (router_side r)) = cond (answers net r ip) (Some r.mac) None

-- the Ethernet address of the neighbour: the static binding, else what the partner's side has
abbrev pub neighbour_of : Network → RouterPort → Ip4 → Option Mac
neighbour_of net p ip = or_else (static_neighbour net p ip) (joined_neighbour net p ip (partner_of_router_port net p))
