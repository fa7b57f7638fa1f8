-- From and to which addresses a virtual port may send and get packets.
use Rattle.std.specs.Prelude.{◌==◌, ◌&&◌, ◌||◌, not, Bool}
use Rattle.std.specs.List.{list_any}
use Rattle.inet_packet.specs.Fields as field
use Rattle.inet_packet.specs.declared.packet.Packet.{Packet}
use Rattle.nb_records.specs.Routers.{contains}
use Rattle.nb_records.specs.Switches.{same_mac, has_some}
use Rattle.nb_records.specs.declared.switch.SecurityEntry.{SecurityEntry}
use Rattle.nb_records.specs.declared.switch.SwitchPort.{SwitchPort}
use Rattle.ovn_base.specs.addresses.EtherAddress.{is_multicast_mac, mac_number}
use Rattle.ovn_base.specs.declared.address.Ip4.{Ip4}
use Rattle.net_model.specs.Headers.{carries_ip4, carries_arp, ip_of, src_of, dst_of, is_for_many, is_dhcp_request}

-- the address is one of the entry's; an entry without IPv4 addresses has all
abbrev pub admits_ip : SecurityEntry → Ip4 → Bool
admits_ip e ip = not (has_some e.ips) || list_any (λ prefix. contains prefix ip) e.ips

-- ---- entering

-- an ARP packet names the entry's Ethernet address as its sender, and one of its IPv4 addresses
abbrev pub admits_sender : SecurityEntry → Packet → Bool
admits_sender e p = (mac_number e.mac == field.arp_sha p.body) && admits_ip e (ip_of (field.arp_spa p.body))

-- a packet from the entry's Ethernet address: IPv4 from one of its IPv4 addresses, or a DHCP request; ARP in its name; and any other
abbrev pub admits_from : SecurityEntry → Packet → Bool
admits_from e p = same_mac e.mac p.src
    && ((not (carries_ip4 p) || (admits_ip e (src_of p) || is_dhcp_request p))
    && (not (carries_arp p) || admits_sender e p))

-- some entry admits it; a port without entries admits all, and only virtual ports have entries
abbrev pub may_enter : SwitchPort → Packet → Bool
may_enter q p = not (has_some q.port_security) || list_any (λ e. admits_from e p) q.port_security

-- ---- leaving

-- a packet to the entry's Ethernet address: IPv4 to one of its IPv4 addresses, to a group's or to all; and any other
abbrev pub admits_to : SecurityEntry → Packet → Bool
admits_to e p = same_mac e.mac p.dst && (not (carries_ip4 p) || (admits_ip e (dst_of p) || is_for_many (dst_of p)))

-- a packet for a group's Ethernet address leaves by every port
abbrev pub may_leave : SwitchPort → Packet → Bool
may_leave q p = not (has_some q.port_security) || (is_multicast_mac p.dst || list_any (λ e. admits_to e p) q.port_security)
