-- What the rules of the network ask of a packet's headers.
use Rattle.std.specs.Prelude.{ℕ, Bool, ◌&&◌, ◌||◌, ◌==◌, Option, Some, None, cond}
use Rattle.inet_packet.specs.Fields as field
use Rattle.inet_packet.specs.declared.packet.Packet.{Packet}
use Rattle.nb_records.specs.Routers.{contains}
use Rattle.ovn_base.specs.declared.address.Cidr.{Cidr}
use Rattle.ovn_base.specs.declared.address.Ip4.{Ip4}

abbrev pub carries_ip4 : Packet → Bool
carries_ip4 p = field.ether_type p.body == 0x0800

-- also one whose body is not read, of which all fields are 0
abbrev pub carries_arp : Packet → Bool
carries_arp p = field.ether_type p.body == 0x0806

-- it has a tag of a VLAN (IEEE 802.1Q)
abbrev pub is_tagged : Packet → Bool
is_tagged p = field.ether_type p.body == 0x8100

-- ---- addresses

abbrev pub ip_of : ℕ → Ip4
ip_of n = record { 0 = n }

-- the IPv4 addresses of the packet, 0 where it has none
abbrev pub src_of : Packet → Ip4
src_of p = ip_of (field.ip4_src p.body)

abbrev pub dst_of : Packet → Ip4
dst_of p = ip_of (field.ip4_dst p.body)

-- the address for which an ARP request asks
abbrev pub asked_ip : Packet → Option Ip4
asked_ip p = cond (carries_arp p && (field.arp_op p.body == 1)) (Some (ip_of (field.arp_tpa p.body))) None

-- ---- addresses with a meaning (RFC 6890, RFC 5771)

abbrev pub broadcast_ip : ℕ
broadcast_ip = 0xffff_ffff

abbrev pub this_network : Cidr
this_network = record { addr = ip_of 0; len = 8 }

abbrev pub loopback_network : Cidr
loopback_network = record { addr = ip_of 0x7f00_0000; len = 8 }

abbrev pub group_network : Cidr
group_network = record { addr = ip_of 0xe000_0000; len = 4 }

-- an address of a group, or of all
abbrev pub is_for_many : Ip4 → Bool
is_for_many ip = contains group_network ip || (ip.0 == broadcast_ip)

-- no router passes a packet on that has such an address
abbrev pub is_bad_ip : Ip4 → Bool
is_bad_ip ip = contains this_network ip || (contains loopback_network ip || is_for_many ip)

-- what a host sends that has no address yet (RFC 2131): from 0.0.0.0 to all, from UDP port 68 to port 67
abbrev pub is_dhcp_request : Packet → Bool
is_dhcp_request p =
    (field.ip4_src p.body == 0) && ((field.ip4_dst p.body == broadcast_ip) && ((field.udp_src p.body == 68) && (field.udp_dst p.body == 67)))
