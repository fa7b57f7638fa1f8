-- The cube that holds every packet, and fields that are asked for whole.
use Rattle.std.specs.Prelude.{ℕ, ◌-◌, ◌^◌, None}
use Rattle.inet_packet.specs.declared.cube.Bits.{Bits}
use Rattle.inet_packet.specs.declared.cube.Cube.{Cube}
use Rattle.inet_packet.specs.declared.cube.TheConstants.Bits.{ANY}

-- no bit of a field counts
abbrev pub any : Bits
any = ANY

-- all bits of a field of this width
abbrev pub exactly : ℕ → ℕ → Bits
exactly width n = record { value = n; mask = 2 ^ width - 1 }

-- every packet with its registers
abbrev pub everything : Cube
everything = record {
  at = None;
  dp = any;
  in_port = any;
  out_port = any;
  next = any;
  z_in = any;
  z_out = any;
  z_dnat = any;
  z_snat = any;
  state = any;
  verdict = any;
  tier = any;
  flags = any;
  eth_src = any;
  eth_dst = any;
  eth_type = any;
  ip4_src = any;
  ip4_dst = any;
  ip_proto = any;
  ip_ttl = any;
  tcp_src = any;
  tcp_dst = any;
  udp_src = any;
  udp_dst = any;
  icmp4_type = any;
  icmp4_code = any;
  arp_op = any;
  arp_spa = any;
  arp_tpa = any;
  arp_sha = any;
  arp_tha = any;
}
