-- Neighbours as they are looked for, entry by entry.
use Rattle.std.specs.Prelude.{◌&&◌, List, Option, Some, None, cond}
use Rattle.nb_records.specs.Neighbours.{answering_mac}
use Rattle.nb_records.specs.Network.{Network}
use Rattle.nb_records.specs.Routers.{answers}
use Rattle.nb_records.specs.Switches.{is_virtual, mac_of_ip, first_answer, router_port_behind}
use Rattle.nb_records.specs.declared.router.RouterPort.{RouterPort}
use Rattle.nb_records.specs.declared.switch.SwitchPort.{SwitchPort}
use Rattle.ovn_base.specs.declared.address.Ip4.{Ip4}
use Rattle.ovn_base.specs.declared.address.Mac.{Mac}
use Rattle.ovn_base.specs.declared.name.Name.{Name}
use Rattle.ovn_base.specs.names.SameName.{same_name}

-- ---- a directly joined router port

abbrev pub mac_if_answering : Network → Ip4 → RouterPort → Option Mac
mac_if_answering net ip r = cond (answers net r ip) (Some r.mac) None

abbrev pub peer_mac : Network → Ip4 → Option RouterPort → Option Mac
peer_mac net ip None = None
peer_mac net ip (Some r) = mac_if_answering net ip r

-- ---- a virtual port on the switch

abbrev pub virtual_mac : Name → Ip4 → SwitchPort → Option Mac
virtual_mac switch ip q = cond (same_name q.switch switch && (q.enabled && is_virtual q)) (mac_of_ip ip q) None

abbrev pub virtual_among : Name → Ip4 → List (Name × SwitchPort) → Option Mac
virtual_among switch ip ports = first_answer (λ e. virtual_mac switch ip e.1) ports

-- ---- another router port on the switch

abbrev pub mac_behind : Network → Name → Ip4 → Option RouterPort → Option Mac
mac_behind net p ip None = None
mac_behind net p ip (Some r) = answering_mac net p ip r

abbrev pub router_mac : Network → Name → Name → Ip4 → SwitchPort → Option Mac
router_mac net p switch ip q = cond (same_name q.switch switch && q.enabled) (mac_behind net p ip (router_port_behind net q)) None

abbrev pub router_among : Network → Name → Name → Ip4 → List (Name × SwitchPort) → Option Mac
router_among net p switch ip ports = first_answer (λ e. router_mac net p switch ip e.1) ports
