-- To what a packet is sent in a switch.
use Rattle.std.specs.Prelude.{◌&&◌, not, Bool, List, [], ◌∷◌, Option, Some, None, option_map, cond}
use Rattle.std.specs.List.{filter, find}
use Rattle.inet_packet.specs.declared.packet.Packet.{Packet}
use Rattle.nb_records.specs.Network.{Network}
use Rattle.nb_records.specs.Routers.{answers_if}
use Rattle.nb_records.specs.Switches.{is_virtual, enabled_ports, router_port_behind, takes_unknown, has_mac, mac_of_ip, first_answer}
use Rattle.nb_records.specs.declared.switch.SwitchPort.{SwitchPort}
use Rattle.ovn_base.specs.addresses.EtherAddress.{is_multicast_mac}
use Rattle.ovn_base.specs.declared.address.Ip4.{Ip4}
use Rattle.ovn_base.specs.declared.address.Mac.{Mac}
use Rattle.ovn_base.specs.declared.name.Name.{Name}
use Rattle.ovn_base.specs.names.SameName.{same_name}
use Rattle.net_model.specs.declared.crossing.Group.{Group}
use Rattle.net_model.specs.declared.crossing.Group.TheVariants.{Flood, Unknown}
use Rattle.net_model.specs.Headers.{asked_ip}
use Rattle.net_model.specs.Trail.{first_given}

pub data Target : Type 0 where
  -- an answer goes back to the port of entry: it is this Ethernet address that has the IPv4 address
  answer_from : Mac → Ip4 → Target
  to_one : SwitchPort → Target
  to_group : Group → Target
  to_nobody : Target

-- ---- groups

-- the members of a group of the switch, in order of name
abbrev pub members : Network → Name → Group → List SwitchPort
members net switch Flood = enabled_ports net switch
members net switch Unknown = filter (λ q. takes_unknown q.addresses) (enabled_ports net switch)

-- ---- ARP requests

-- the port is another one than i
abbrev pub is_other : SwitchPort → SwitchPort → Bool
is_other i q = not (same_name q.name i.name)

-- a request for an IPv4 address that an enabled virtual port has, another than the port of entry, is answered in that port's place
abbrev pub answer_target : Network → SwitchPort → Option Ip4 → Option Target
answer_target net i None = None
answer_target net i (Some ip) =
    option_map (λ mac. answer_from mac ip) (first_answer (mac_of_ip ip) (filter (λ q. is_virtual q && is_other i q) (enabled_ports net i.switch)))

-- one to all, for an address that the router port behind an enabled port answers, goes to that port alone
abbrev pub asked_of_all : Packet → Option Ip4
asked_of_all p = cond (is_multicast_mac p.dst) (asked_ip p) None

abbrev pub answers_behind : Network → Ip4 → SwitchPort → Bool
answers_behind net ip q = answers_if net ip (router_port_behind net q)

abbrev pub router_target : Network → Name → Option Ip4 → Option Target
router_target net switch None = None
router_target net switch (Some ip) = option_map to_one (find (answers_behind net ip) (enabled_ports net switch))

-- ---- other packets

-- a packet for a group's Ethernet address goes to all ports
abbrev pub flood_target : Packet → Option Target
flood_target p = cond (is_multicast_mac p.dst) (Some (to_group Flood)) None

-- one for the address of an enabled port goes to that port
abbrev pub known_target : Network → Name → Mac → Option Target
known_target net switch mac = option_map to_one (find (has_mac net mac) (enabled_ports net switch))

-- any other goes to the ports that take unknown addresses, where there are such; the port of entry counts as one
abbrev pub group_if : Group → List SwitchPort → Option Target
group_if g [] = None
group_if g (q ∷ qs) = Some (to_group g)

abbrev pub unknown_target : Network → Name → Option Target
unknown_target net switch = group_if Unknown (members net switch Unknown)

-- ---- any packet

-- the first that there is
abbrev pub target_of : Network → SwitchPort → Packet → Target
target_of net i p = first_given (
    answer_target net i (asked_ip p)
    ∷ router_target net i.switch (asked_of_all p)
    ∷ flood_target p
    ∷ known_target net i.switch p.dst
    ∷ unknown_target net i.switch
    ∷ []) to_nobody
