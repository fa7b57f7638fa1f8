-- What a cube asks of the fields that matches speak of.
use Rattle.std.specs.Prelude.{ℕ, Bool, if◌then◌else◌, List, [], ◌∷◌}
use Rattle.std.specs.List.{list_all, list_any}
use Rattle.ovn_base.specs.addresses.EtherAddress.{mac_number}
use Rattle.inet_packet.specs.declared.cube.Bits.{Bits}
use Rattle.inet_packet.specs.declared.cube.Cube.{Cube}
use Rattle.inet_packet.specs.Cubes.{everything}
use Rattle.inet_packet.specs.declared.packet.Packet.{Packet}
use Rattle.inet_packet.specs.declared.regs.Regs.{Regs}
use Rattle.inet_packet.specs.Fields.{ether_type, ip4_src, ip4_dst, ip_proto, ip_ttl, tcp_src, tcp_dst, udp_src, udp_dst, icmp4_type, icmp4_code, arp_op, arp_spa, arp_tpa, arp_sha, arp_tha}
use Rattle.match_language.specs.declared.field.Field.{Field}
use Rattle.match_language.specs.declared.field.Field.TheVariants as f
use Rattle.match_language.specs.Tables.{field_bits, all_fields}
use Rattle.match_cubes.specs.Ternary.{fits, agree, both_bits}

-- the number that the field has in the packet with its registers; that of a port is its key
abbrev pub number_in : Field → Regs → Packet → ℕ
number_in f.EthSrc regs packet = mac_number packet.src
number_in f.EthDst regs packet = mac_number packet.dst
number_in f.EthType regs packet = ether_type packet.body
number_in f.Ip4Src regs packet = ip4_src packet.body
number_in f.Ip4Dst regs packet = ip4_dst packet.body
number_in f.IpProto regs packet = ip_proto packet.body
number_in f.IpTtl regs packet = ip_ttl packet.body
number_in f.TcpSrc regs packet = tcp_src packet.body
number_in f.TcpDst regs packet = tcp_dst packet.body
number_in f.UdpSrc regs packet = udp_src packet.body
number_in f.UdpDst regs packet = udp_dst packet.body
number_in f.Icmp4Type regs packet = icmp4_type packet.body
number_in f.Icmp4Code regs packet = icmp4_code packet.body
number_in f.ArpOp regs packet = arp_op packet.body
number_in f.ArpSpa regs packet = arp_spa packet.body
number_in f.ArpTpa regs packet = arp_tpa packet.body
number_in f.ArpSha regs packet = arp_sha packet.body
number_in f.ArpTha regs packet = arp_tha packet.body
number_in f.Inport regs packet = regs.in_port
number_in f.Outport regs packet = regs.out_port

-- how many bits the number has
abbrev pub bit_width : Field → ℕ
bit_width f.Inport = 16
bit_width f.Outport = 16
bit_width other = field_bits other

-- what the cube asks of the field
abbrev pub asked_of_field : Field → Cube → Bits
asked_of_field f.EthSrc c = c.eth_src
asked_of_field f.EthDst c = c.eth_dst
asked_of_field f.EthType c = c.eth_type
asked_of_field f.Ip4Src c = c.ip4_src
asked_of_field f.Ip4Dst c = c.ip4_dst
asked_of_field f.IpProto c = c.ip_proto
asked_of_field f.IpTtl c = c.ip_ttl
asked_of_field f.TcpSrc c = c.tcp_src
asked_of_field f.TcpDst c = c.tcp_dst
asked_of_field f.UdpSrc c = c.udp_src
asked_of_field f.UdpDst c = c.udp_dst
asked_of_field f.Icmp4Type c = c.icmp4_type
asked_of_field f.Icmp4Code c = c.icmp4_code
asked_of_field f.ArpOp c = c.arp_op
asked_of_field f.ArpSpa c = c.arp_spa
asked_of_field f.ArpTpa c = c.arp_tpa
asked_of_field f.ArpSha c = c.arp_sha
asked_of_field f.ArpTha c = c.arp_tha
asked_of_field f.Inport c = c.in_port
asked_of_field f.Outport c = c.out_port

-- the cube of all packets
abbrev pub all_packets : Cube
all_packets = everything

-- the cube that asks this of each field, and nothing else
abbrev pub cube_of : (Field → Bits) → Cube
cube_of b = record everything {
  in_port = b f.Inport;
  out_port = b f.Outport;
  eth_src = b f.EthSrc;
  eth_dst = b f.EthDst;
  eth_type = b f.EthType;
  ip4_src = b f.Ip4Src;
  ip4_dst = b f.Ip4Dst;
  ip_proto = b f.IpProto;
  ip_ttl = b f.IpTtl;
  tcp_src = b f.TcpSrc;
  tcp_dst = b f.TcpDst;
  udp_src = b f.UdpSrc;
  udp_dst = b f.UdpDst;
  icmp4_type = b f.Icmp4Type;
  icmp4_code = b f.Icmp4Code;
  arp_op = b f.ArpOp;
  arp_spa = b f.ArpSpa;
  arp_tpa = b f.ArpTpa;
  arp_sha = b f.ArpSha;
  arp_tha = b f.ArpTha;
}

-- the same cube, which asks this of the field
abbrev pub ask : Field → Bits → Cube → Cube
ask f.EthSrc b c = record c { eth_src = b }
ask f.EthDst b c = record c { eth_dst = b }
ask f.EthType b c = record c { eth_type = b }
ask f.Ip4Src b c = record c { ip4_src = b }
ask f.Ip4Dst b c = record c { ip4_dst = b }
ask f.IpProto b c = record c { ip_proto = b }
ask f.IpTtl b c = record c { ip_ttl = b }
ask f.TcpSrc b c = record c { tcp_src = b }
ask f.TcpDst b c = record c { tcp_dst = b }
ask f.UdpSrc b c = record c { udp_src = b }
ask f.UdpDst b c = record c { udp_dst = b }
ask f.Icmp4Type b c = record c { icmp4_type = b }
ask f.Icmp4Code b c = record c { icmp4_code = b }
ask f.ArpOp b c = record c { arp_op = b }
ask f.ArpSpa b c = record c { arp_spa = b }
ask f.ArpTpa b c = record c { arp_tpa = b }
ask f.ArpSha b c = record c { arp_sha = b }
ask f.ArpTha b c = record c { arp_tha = b }
ask f.Inport b c = record c { in_port = b }
ask f.Outport b c = record c { out_port = b }

-- the packet with its registers has what the cube asks of the fields
abbrev pub is_in_cube : Regs → Packet → Cube → Bool
is_in_cube regs packet c = list_all (λ f. fits (asked_of_field f c) (number_in f regs packet)) all_fields

-- it is in one of the cubes
abbrev pub in_one : Regs → Packet → List Cube → Bool
in_one regs packet cubes = list_any (is_in_cube regs packet) cubes

-- the cubes ask for both values of no bit
abbrev pub agree_all : Cube → Cube → Bool
agree_all a b = list_all (λ f. agree (asked_of_field f a) (asked_of_field f b)) all_fields

abbrev pub joined_all : Cube → Cube → Cube
joined_all a b = cube_of (λ f. both_bits (asked_of_field f a) (asked_of_field f b))

-- what is in both; none, where they ask for both values of one bit
unfoldable pub meet : Cube → Cube → List Cube
meet a b = if agree_all a b then joined_all a b ∷ [] else []
