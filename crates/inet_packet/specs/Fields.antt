-- What stands in the fields of a packet that a cube may ask for. A field that the packet does not have is 0.
use Rattle.std.specs.Prelude.{ℕ}
use Rattle.ovn_base.specs.addresses.EtherAddress.{mac_number}
use Rattle.inet_packet.specs.declared.packet.Body.{Body}
use Rattle.inet_packet.specs.declared.packet.Body.TheVariants.{Arp, Ip4, Other}
use Rattle.inet_packet.specs.declared.packet.Part.{Part}
use Rattle.inet_packet.specs.declared.packet.Part.TheVariants.{Tcp, Udp, Icmp, OtherIp, Fragment}

-- the Ethernet type
abbrev pub ether_type : Body → ℕ
ether_type (Arp a) = 0x0806
ether_type (Ip4 i) = 0x0800
ether_type (Other t) = t

-- the addresses, the protocol and the time to live of an IPv4 header
abbrev pub ip4_src : Body → ℕ
ip4_src (Arp a) = 0
ip4_src (Ip4 i) = i.src.0
ip4_src (Other t) = 0

abbrev pub ip4_dst : Body → ℕ
ip4_dst (Arp a) = 0
ip4_dst (Ip4 i) = i.dst.0
ip4_dst (Other t) = 0

abbrev pub ip_proto : Body → ℕ
ip_proto (Arp a) = 0
ip_proto (Ip4 i) = i.proto
ip_proto (Other t) = 0

abbrev pub ip_ttl : Body → ℕ
ip_ttl (Arp a) = 0
ip_ttl (Ip4 i) = i.ttl
ip_ttl (Other t) = 0

-- the ports of a TCP or UDP header, and the type and code of an ICMP one
abbrev pub part_tcp_src : Part → ℕ
part_tcp_src (Tcp src_port dst_port middle sum urgent) = src_port
part_tcp_src (Udp src_port dst_port len sum) = 0
part_tcp_src (Icmp kind code sum ident) = 0
part_tcp_src OtherIp = 0
part_tcp_src Fragment = 0

abbrev pub tcp_src : Body → ℕ
tcp_src (Arp a) = 0
tcp_src (Ip4 i) = part_tcp_src i.part
tcp_src (Other t) = 0

abbrev pub part_tcp_dst : Part → ℕ
part_tcp_dst (Tcp src_port dst_port middle sum urgent) = dst_port
part_tcp_dst (Udp src_port dst_port len sum) = 0
part_tcp_dst (Icmp kind code sum ident) = 0
part_tcp_dst OtherIp = 0
part_tcp_dst Fragment = 0

abbrev pub tcp_dst : Body → ℕ
tcp_dst (Arp a) = 0
tcp_dst (Ip4 i) = part_tcp_dst i.part
tcp_dst (Other t) = 0

abbrev pub part_udp_src : Part → ℕ
part_udp_src (Tcp src_port dst_port middle sum urgent) = 0
part_udp_src (Udp src_port dst_port len sum) = src_port
part_udp_src (Icmp kind code sum ident) = 0
part_udp_src OtherIp = 0
part_udp_src Fragment = 0

abbrev pub udp_src : Body → ℕ
udp_src (Arp a) = 0
udp_src (Ip4 i) = part_udp_src i.part
udp_src (Other t) = 0

abbrev pub part_udp_dst : Part → ℕ
part_udp_dst (Tcp src_port dst_port middle sum urgent) = 0
part_udp_dst (Udp src_port dst_port len sum) = dst_port
part_udp_dst (Icmp kind code sum ident) = 0
part_udp_dst OtherIp = 0
part_udp_dst Fragment = 0

abbrev pub udp_dst : Body → ℕ
udp_dst (Arp a) = 0
udp_dst (Ip4 i) = part_udp_dst i.part
udp_dst (Other t) = 0

abbrev pub part_icmp4_type : Part → ℕ
part_icmp4_type (Tcp src_port dst_port middle sum urgent) = 0
part_icmp4_type (Udp src_port dst_port len sum) = 0
part_icmp4_type (Icmp kind code sum ident) = kind
part_icmp4_type OtherIp = 0
part_icmp4_type Fragment = 0

abbrev pub icmp4_type : Body → ℕ
icmp4_type (Arp a) = 0
icmp4_type (Ip4 i) = part_icmp4_type i.part
icmp4_type (Other t) = 0

abbrev pub part_icmp4_code : Part → ℕ
part_icmp4_code (Tcp src_port dst_port middle sum urgent) = 0
part_icmp4_code (Udp src_port dst_port len sum) = 0
part_icmp4_code (Icmp kind code sum ident) = code
part_icmp4_code OtherIp = 0
part_icmp4_code Fragment = 0

abbrev pub icmp4_code : Body → ℕ
icmp4_code (Arp a) = 0
icmp4_code (Ip4 i) = part_icmp4_code i.part
icmp4_code (Other t) = 0

-- the operation of an ARP packet, and its addresses
abbrev pub arp_op : Body → ℕ
arp_op (Arp a) = a.op
arp_op (Ip4 i) = 0
arp_op (Other t) = 0

abbrev pub arp_spa : Body → ℕ
arp_spa (Arp a) = a.spa.0
arp_spa (Ip4 i) = 0
arp_spa (Other t) = 0

abbrev pub arp_tpa : Body → ℕ
arp_tpa (Arp a) = a.tpa.0
arp_tpa (Ip4 i) = 0
arp_tpa (Other t) = 0

abbrev pub arp_sha : Body → ℕ
arp_sha (Arp a) = mac_number a.sha
arp_sha (Ip4 i) = 0
arp_sha (Other t) = 0

abbrev pub arp_tha : Body → ℕ
arp_tha (Arp a) = mac_number a.tha
arp_tha (Ip4 i) = 0
arp_tha (Other t) = 0
