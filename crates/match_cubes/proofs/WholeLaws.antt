-- The numbers of whole packets lie within their fields.
use Rattle.std.specs.Prelude.{◌≡◌, ◌<◌, ℕ, ◌^◌, false, List}
use Rattle.std.proofs.Common.{arith}
use Rattle.inet_packet.specs.declared.packet.Body.{Body}
use Rattle.inet_packet.specs.declared.packet.Body.TheVariants.{Arp, Ip4, Other}
use Rattle.inet_packet.specs.declared.packet.Packet.{Packet}
use Rattle.inet_packet.specs.declared.packet.Part.{Part}
use Rattle.inet_packet.specs.declared.packet.Part.TheVariants.{Tcp, Udp, Icmp, OtherIp, Fragment}
use Rattle.inet_packet.specs.declared.regs.Regs.{Regs}
use Rattle.inet_packet.specs.Fields.{ether_type, ip4_src, ip4_dst, ip_proto, ip_ttl, tcp_src, tcp_dst, udp_src, udp_dst, icmp4_type, icmp4_code, arp_op, arp_spa, arp_tpa, arp_sha, arp_tha, part_tcp_src, part_tcp_dst, part_udp_src, part_udp_dst, part_icmp4_type, part_icmp4_code}
use Rattle.inet_packet.specs.Whole.{IsPartWithin, IsWholeBody, IsWhole}
use Rattle.match_language.specs.declared.field.Field.{Field}
use Rattle.match_language.specs.declared.field.Field.TheVariants as f
use Rattle.match_language.specs.Tables.{is_port_field}
use Rattle.match_cubes.specs.Asked.{number_in, bit_width}
use Rattle.match_cubes.specs.Suited.{HasFieldsInRange}

tcp_src_part : (x : Part) → IsPartWithin x → part_tcp_src x < 2 ^ 16
tcp_src_part (Tcp src_port dst_port middle sum urgent) h = h.0
tcp_src_part (Udp src_port dst_port len sum) h = omega arith
tcp_src_part (Icmp kind code sum ident) h = omega arith
tcp_src_part OtherIp h = omega arith
tcp_src_part Fragment h = omega arith

tcp_dst_part : (x : Part) → IsPartWithin x → part_tcp_dst x < 2 ^ 16
tcp_dst_part (Tcp src_port dst_port middle sum urgent) h = h.1
tcp_dst_part (Udp src_port dst_port len sum) h = omega arith
tcp_dst_part (Icmp kind code sum ident) h = omega arith
tcp_dst_part OtherIp h = omega arith
tcp_dst_part Fragment h = omega arith

udp_src_part : (x : Part) → IsPartWithin x → part_udp_src x < 2 ^ 16
udp_src_part (Tcp src_port dst_port middle sum urgent) h = omega arith
udp_src_part (Udp src_port dst_port len sum) h = h.0
udp_src_part (Icmp kind code sum ident) h = omega arith
udp_src_part OtherIp h = omega arith
udp_src_part Fragment h = omega arith

udp_dst_part : (x : Part) → IsPartWithin x → part_udp_dst x < 2 ^ 16
udp_dst_part (Tcp src_port dst_port middle sum urgent) h = omega arith
udp_dst_part (Udp src_port dst_port len sum) h = h.1
udp_dst_part (Icmp kind code sum ident) h = omega arith
udp_dst_part OtherIp h = omega arith
udp_dst_part Fragment h = omega arith

icmp4_type_part : (x : Part) → IsPartWithin x → part_icmp4_type x < 2 ^ 8
icmp4_type_part (Tcp src_port dst_port middle sum urgent) h = omega arith
icmp4_type_part (Udp src_port dst_port len sum) h = omega arith
icmp4_type_part (Icmp kind code sum ident) h = h.0
icmp4_type_part OtherIp h = omega arith
icmp4_type_part Fragment h = omega arith

icmp4_code_part : (x : Part) → IsPartWithin x → part_icmp4_code x < 2 ^ 8
icmp4_code_part (Tcp src_port dst_port middle sum urgent) h = omega arith
icmp4_code_part (Udp src_port dst_port len sum) h = omega arith
icmp4_code_part (Icmp kind code sum ident) h = h.1
icmp4_code_part OtherIp h = omega arith
icmp4_code_part Fragment h = omega arith

ether_type_below : (x : Body) (tail : List ℕ) → IsWholeBody x tail → ether_type x < 2 ^ 16
ether_type_below (Arp a) tail h = omega arith
ether_type_below (Ip4 i) tail h = omega arith
ether_type_below (Other t) tail h = h.within

ip4_src_below : (x : Body) (tail : List ℕ) → IsWholeBody x tail → ip4_src x < 2 ^ 32
ip4_src_below (Arp a) tail h = omega arith
ip4_src_below (Ip4 i) tail h = h.within.src
ip4_src_below (Other t) tail h = omega arith

ip4_dst_below : (x : Body) (tail : List ℕ) → IsWholeBody x tail → ip4_dst x < 2 ^ 32
ip4_dst_below (Arp a) tail h = omega arith
ip4_dst_below (Ip4 i) tail h = h.within.dst
ip4_dst_below (Other t) tail h = omega arith

ip_proto_below : (x : Body) (tail : List ℕ) → IsWholeBody x tail → ip_proto x < 2 ^ 8
ip_proto_below (Arp a) tail h = omega arith
ip_proto_below (Ip4 i) tail h = h.within.proto
ip_proto_below (Other t) tail h = omega arith

ip_ttl_below : (x : Body) (tail : List ℕ) → IsWholeBody x tail → ip_ttl x < 2 ^ 8
ip_ttl_below (Arp a) tail h = omega arith
ip_ttl_below (Ip4 i) tail h = h.within.ttl
ip_ttl_below (Other t) tail h = omega arith

tcp_src_below : (x : Body) (tail : List ℕ) → IsWholeBody x tail → tcp_src x < 2 ^ 16
tcp_src_below (Arp a) tail h = omega arith
tcp_src_below (Ip4 i) tail h = tcp_src_part i.part h.within.part
tcp_src_below (Other t) tail h = omega arith

tcp_dst_below : (x : Body) (tail : List ℕ) → IsWholeBody x tail → tcp_dst x < 2 ^ 16
tcp_dst_below (Arp a) tail h = omega arith
tcp_dst_below (Ip4 i) tail h = tcp_dst_part i.part h.within.part
tcp_dst_below (Other t) tail h = omega arith

udp_src_below : (x : Body) (tail : List ℕ) → IsWholeBody x tail → udp_src x < 2 ^ 16
udp_src_below (Arp a) tail h = omega arith
udp_src_below (Ip4 i) tail h = udp_src_part i.part h.within.part
udp_src_below (Other t) tail h = omega arith

udp_dst_below : (x : Body) (tail : List ℕ) → IsWholeBody x tail → udp_dst x < 2 ^ 16
udp_dst_below (Arp a) tail h = omega arith
udp_dst_below (Ip4 i) tail h = udp_dst_part i.part h.within.part
udp_dst_below (Other t) tail h = omega arith

icmp4_type_below : (x : Body) (tail : List ℕ) → IsWholeBody x tail → icmp4_type x < 2 ^ 8
icmp4_type_below (Arp a) tail h = omega arith
icmp4_type_below (Ip4 i) tail h = icmp4_type_part i.part h.within.part
icmp4_type_below (Other t) tail h = omega arith

icmp4_code_below : (x : Body) (tail : List ℕ) → IsWholeBody x tail → icmp4_code x < 2 ^ 8
icmp4_code_below (Arp a) tail h = omega arith
icmp4_code_below (Ip4 i) tail h = icmp4_code_part i.part h.within.part
icmp4_code_below (Other t) tail h = omega arith

arp_op_below : (x : Body) (tail : List ℕ) → IsWholeBody x tail → arp_op x < 2 ^ 16
arp_op_below (Arp a) tail h = h.op
arp_op_below (Ip4 i) tail h = omega arith
arp_op_below (Other t) tail h = omega arith

arp_spa_below : (x : Body) (tail : List ℕ) → IsWholeBody x tail → arp_spa x < 2 ^ 32
arp_spa_below (Arp a) tail h = h.spa
arp_spa_below (Ip4 i) tail h = omega arith
arp_spa_below (Other t) tail h = omega arith

arp_tpa_below : (x : Body) (tail : List ℕ) → IsWholeBody x tail → arp_tpa x < 2 ^ 32
arp_tpa_below (Arp a) tail h = h.tpa
arp_tpa_below (Ip4 i) tail h = omega arith
arp_tpa_below (Other t) tail h = omega arith

arp_sha_below : (x : Body) (tail : List ℕ) → IsWholeBody x tail → arp_sha x < 2 ^ 48
arp_sha_below (Arp a) tail h = a.sha.below
arp_sha_below (Ip4 i) tail h = omega arith
arp_sha_below (Other t) tail h = omega arith

arp_tha_below : (x : Body) (tail : List ℕ) → IsWholeBody x tail → arp_tha x < 2 ^ 48
arp_tha_below (Arp a) tail h = a.tha.below
arp_tha_below (Ip4 i) tail h = omega arith
arp_tha_below (Other t) tail h = omega arith

below : (packet : Packet) → IsWhole packet → (g : Field) (regs : Regs) → is_port_field g ≡ false → number_in g regs packet < 2 ^ bit_width g
below packet h f.EthSrc regs k = packet.src.below
below packet h f.EthDst regs k = packet.dst.below
below packet h f.EthType regs k = ether_type_below packet.body packet.tail h.body
below packet h f.Ip4Src regs k = ip4_src_below packet.body packet.tail h.body
below packet h f.Ip4Dst regs k = ip4_dst_below packet.body packet.tail h.body
below packet h f.IpProto regs k = ip_proto_below packet.body packet.tail h.body
below packet h f.IpTtl regs k = ip_ttl_below packet.body packet.tail h.body
below packet h f.TcpSrc regs k = tcp_src_below packet.body packet.tail h.body
below packet h f.TcpDst regs k = tcp_dst_below packet.body packet.tail h.body
below packet h f.UdpSrc regs k = udp_src_below packet.body packet.tail h.body
below packet h f.UdpDst regs k = udp_dst_below packet.body packet.tail h.body
below packet h f.Icmp4Type regs k = icmp4_type_below packet.body packet.tail h.body
below packet h f.Icmp4Code regs k = icmp4_code_below packet.body packet.tail h.body
below packet h f.ArpOp regs k = arp_op_below packet.body packet.tail h.body
below packet h f.ArpSpa regs k = arp_spa_below packet.body packet.tail h.body
below packet h f.ArpTpa regs k = arp_tpa_below packet.body packet.tail h.body
below packet h f.ArpSha regs k = arp_sha_below packet.body packet.tail h.body
below packet h f.ArpTha regs k = arp_tha_below packet.body packet.tail h.body
below packet h f.Inport regs k = absurd cc
below packet h f.Outport regs k = absurd cc

pub whole_in_range : (packet : Packet) → IsWhole packet → HasFieldsInRange packet
whole_in_range packet h = record { below = below packet h }
