-- When a cube holds a packet with its registers.
use Rattle.std.specs.Prelude.{◌≡◌, ℕ, Option, Some, None, bit_and}
use Rattle.ovn_base.specs.addresses.EtherAddress.{mac_number}
use Rattle.inet_packet.specs.declared.cube.Bits.{Bits}
use Rattle.inet_packet.specs.declared.cube.Cube.{Cube}
use Rattle.inet_packet.specs.declared.packet.Body.{Body}
use Rattle.inet_packet.specs.declared.packet.Packet.{Packet}
use Rattle.inet_packet.specs.declared.regs.At.{At}
use Rattle.inet_packet.specs.declared.regs.Regs.{Regs}
use Rattle.inet_packet.specs.Fields.{ether_type, ip4_src, ip4_dst, ip_proto, ip_ttl, tcp_src, tcp_dst, udp_src, udp_dst, icmp4_type, icmp4_code, arp_op, arp_spa, arp_tpa, arp_sha, arp_tha}

-- the bits that count have the value
abbrev pub BitsFit : Bits → ℕ → Type 0
BitsFit b n = bit_and n b.mask ≡ b.value

-- the entry is the one asked for, if one is asked for
abbrev pub EntryFits : Option At → At → Type 0
EntryFits None at = Unit {0}
EntryFits (Some wanted) at = at ≡ wanted

-- where the packet is and where it goes
pub record FitsPlace (cube : Cube) (regs : Regs) : Type 0 where
  pub dp_fits : BitsFit cube.dp regs.dp
  pub in_port_fits : BitsFit cube.in_port regs.in_port
  pub out_port_fits : BitsFit cube.out_port regs.out_port
  pub next_fits : BitsFit cube.next regs.next

-- the zones
pub record FitsZones (cube : Cube) (regs : Regs) : Type 0 where
  pub z_in_fits : BitsFit cube.z_in regs.z_in
  pub z_out_fits : BitsFit cube.z_out regs.z_out
  pub z_dnat_fits : BitsFit cube.z_dnat regs.z_dnat
  pub z_snat_fits : BitsFit cube.z_snat regs.z_snat

-- what tracking and the rules say, and the flags
pub record FitsState (cube : Cube) (regs : Regs) : Type 0 where
  pub state_fits : BitsFit cube.state regs.state
  pub verdict_fits : BitsFit cube.verdict regs.verdict
  pub tier_fits : BitsFit cube.tier regs.tier
  pub flags_fits : BitsFit cube.flags regs.flags.0

-- the Ethernet header
pub record FitsEther (cube : Cube) (packet : Packet) : Type 0 where
  pub eth_src_fits : BitsFit cube.eth_src (mac_number packet.src)
  pub eth_dst_fits : BitsFit cube.eth_dst (mac_number packet.dst)
  pub eth_type_fits : BitsFit cube.eth_type (ether_type packet.body)

-- the IPv4 header
pub record FitsIp (cube : Cube) (body : Body) : Type 0 where
  pub ip4_src_fits : BitsFit cube.ip4_src (ip4_src body)
  pub ip4_dst_fits : BitsFit cube.ip4_dst (ip4_dst body)
  pub ip_proto_fits : BitsFit cube.ip_proto (ip_proto body)
  pub ip_ttl_fits : BitsFit cube.ip_ttl (ip_ttl body)

-- the ports
pub record FitsPorts (cube : Cube) (body : Body) : Type 0 where
  pub tcp_src_fits : BitsFit cube.tcp_src (tcp_src body)
  pub tcp_dst_fits : BitsFit cube.tcp_dst (tcp_dst body)
  pub udp_src_fits : BitsFit cube.udp_src (udp_src body)
  pub udp_dst_fits : BitsFit cube.udp_dst (udp_dst body)

-- the ICMP message
pub record FitsIcmp (cube : Cube) (body : Body) : Type 0 where
  pub icmp4_type_fits : BitsFit cube.icmp4_type (icmp4_type body)
  pub icmp4_code_fits : BitsFit cube.icmp4_code (icmp4_code body)

-- the ARP packet
pub record FitsArp (cube : Cube) (body : Body) : Type 0 where
  pub arp_op_fits : BitsFit cube.arp_op (arp_op body)
  pub arp_spa_fits : BitsFit cube.arp_spa (arp_spa body)
  pub arp_tpa_fits : BitsFit cube.arp_tpa (arp_tpa body)
  pub arp_sha_fits : BitsFit cube.arp_sha (arp_sha body)
  pub arp_tha_fits : BitsFit cube.arp_tha (arp_tha body)

-- the cube holds the packet with its registers
pub record CubeFits (cube : Cube) (regs : Regs) (packet : Packet) : Type 0 where
  pub entry : EntryFits cube.at regs.at
  pub place : FitsPlace cube regs
  pub zones : FitsZones cube regs
  pub state : FitsState cube regs
  pub ether : FitsEther cube packet
  pub ip : FitsIp cube packet.body
  pub ports : FitsPorts cube packet.body
  pub icmp : FitsIcmp cube packet.body
  pub arp : FitsArp cube packet.body
