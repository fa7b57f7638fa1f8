use Rattle.std.proofs.Common.{◌≡◌}
use Rattle.std.specs.Cmp.{first_so, second_so}
use Rattle.inet_packet.proofs.Exactness.{option_exact}
use Rattle.inet_packet.proofs.exact.exact_cube.Goals as goal

pub returns : goal.returns
returns c = λ a b. (
  λ h0.
      let h1 = second_so _ _ h0 in
      let h2 = second_so _ _ h1 in
      let h3 = second_so _ _ h2 in
      let h4 = second_so _ _ h3 in
      let h5 = second_so _ _ h4 in
      let h6 = second_so _ _ h5 in
      let h7 = second_so _ _ h6 in
      let h8 = second_so _ _ h7 in
      let h9 = second_so _ _ h8 in
      let h10 = second_so _ _ h9 in
      let h11 = second_so _ _ h10 in
      let h12 = second_so _ _ h11 in
      let h13 = second_so _ _ h12 in
      let h14 = second_so _ _ h13 in
      let h15 = second_so _ _ h14 in
      let h16 = second_so _ _ h15 in
      let h17 = second_so _ _ h16 in
      let h18 = second_so _ _ h17 in
      let h19 = second_so _ _ h18 in
      let h20 = second_so _ _ h19 in
      let h21 = second_so _ _ h20 in
      let h22 = second_so _ _ h21 in
      let h23 = second_so _ _ h22 in
      let h24 = second_so _ _ h23 in
      let h25 = second_so _ _ h24 in
      let h26 = second_so _ _ h25 in
      let h27 = second_so _ _ h26 in
      let h28 = second_so _ _ h27 in
      let h29 = second_so _ _ h28 in
      let at : a.at ≡ b.at = option_exact _ (λ x y e. (c.exact_at.ensures x y).0 e) a.at b.at (first_so _ _ h0) in
      let dp : a.dp ≡ b.dp = (c.exact_bits.ensures a.dp b.dp).0 (first_so _ _ h1) in
      let in_port : a.in_port ≡ b.in_port = (c.exact_bits.ensures a.in_port b.in_port).0 (first_so _ _ h2) in
      let out_port : a.out_port ≡ b.out_port = (c.exact_bits.ensures a.out_port b.out_port).0 (first_so _ _ h3) in
      let next : a.next ≡ b.next = (c.exact_bits.ensures a.next b.next).0 (first_so _ _ h4) in
      let z_in : a.z_in ≡ b.z_in = (c.exact_bits.ensures a.z_in b.z_in).0 (first_so _ _ h5) in
      let z_out : a.z_out ≡ b.z_out = (c.exact_bits.ensures a.z_out b.z_out).0 (first_so _ _ h6) in
      let z_dnat : a.z_dnat ≡ b.z_dnat = (c.exact_bits.ensures a.z_dnat b.z_dnat).0 (first_so _ _ h7) in
      let z_snat : a.z_snat ≡ b.z_snat = (c.exact_bits.ensures a.z_snat b.z_snat).0 (first_so _ _ h8) in
      let state : a.state ≡ b.state = (c.exact_bits.ensures a.state b.state).0 (first_so _ _ h9) in
      let verdict : a.verdict ≡ b.verdict = (c.exact_bits.ensures a.verdict b.verdict).0 (first_so _ _ h10) in
      let tier : a.tier ≡ b.tier = (c.exact_bits.ensures a.tier b.tier).0 (first_so _ _ h11) in
      let flags : a.flags ≡ b.flags = (c.exact_bits.ensures a.flags b.flags).0 (first_so _ _ h12) in
      let eth_src : a.eth_src ≡ b.eth_src = (c.exact_bits.ensures a.eth_src b.eth_src).0 (first_so _ _ h13) in
      let eth_dst : a.eth_dst ≡ b.eth_dst = (c.exact_bits.ensures a.eth_dst b.eth_dst).0 (first_so _ _ h14) in
      let eth_type : a.eth_type ≡ b.eth_type = (c.exact_bits.ensures a.eth_type b.eth_type).0 (first_so _ _ h15) in
      let ip4_src : a.ip4_src ≡ b.ip4_src = (c.exact_bits.ensures a.ip4_src b.ip4_src).0 (first_so _ _ h16) in
      let ip4_dst : a.ip4_dst ≡ b.ip4_dst = (c.exact_bits.ensures a.ip4_dst b.ip4_dst).0 (first_so _ _ h17) in
      let ip_proto : a.ip_proto ≡ b.ip_proto = (c.exact_bits.ensures a.ip_proto b.ip_proto).0 (first_so _ _ h18) in
      let ip_ttl : a.ip_ttl ≡ b.ip_ttl = (c.exact_bits.ensures a.ip_ttl b.ip_ttl).0 (first_so _ _ h19) in
      let tcp_src : a.tcp_src ≡ b.tcp_src = (c.exact_bits.ensures a.tcp_src b.tcp_src).0 (first_so _ _ h20) in
      let tcp_dst : a.tcp_dst ≡ b.tcp_dst = (c.exact_bits.ensures a.tcp_dst b.tcp_dst).0 (first_so _ _ h21) in
      let udp_src : a.udp_src ≡ b.udp_src = (c.exact_bits.ensures a.udp_src b.udp_src).0 (first_so _ _ h22) in
      let udp_dst : a.udp_dst ≡ b.udp_dst = (c.exact_bits.ensures a.udp_dst b.udp_dst).0 (first_so _ _ h23) in
      let icmp4_type : a.icmp4_type ≡ b.icmp4_type = (c.exact_bits.ensures a.icmp4_type b.icmp4_type).0 (first_so _ _ h24) in
      let icmp4_code : a.icmp4_code ≡ b.icmp4_code = (c.exact_bits.ensures a.icmp4_code b.icmp4_code).0 (first_so _ _ h25) in
      let arp_op : a.arp_op ≡ b.arp_op = (c.exact_bits.ensures a.arp_op b.arp_op).0 (first_so _ _ h26) in
      let arp_spa : a.arp_spa ≡ b.arp_spa = (c.exact_bits.ensures a.arp_spa b.arp_spa).0 (first_so _ _ h27) in
      let arp_tpa : a.arp_tpa ≡ b.arp_tpa = (c.exact_bits.ensures a.arp_tpa b.arp_tpa).0 (first_so _ _ h28) in
      let arp_sha : a.arp_sha ≡ b.arp_sha = (c.exact_bits.ensures a.arp_sha b.arp_sha).0 (first_so _ _ h29) in
      let arp_tha : a.arp_tha ≡ b.arp_tha = (c.exact_bits.ensures a.arp_tha b.arp_tha).0 (second_so _ _ h29) in
      λ i. record { at = at i; dp = dp i; in_port = in_port i; out_port = out_port i; next = next i; z_in = z_in i; z_out = z_out i; z_dnat = z_dnat i; z_snat = z_snat i; state = state i; verdict = verdict i; tier = tier i; flags = flags i; eth_src = eth_src i; eth_dst = eth_dst i; eth_type = eth_type i; ip4_src = ip4_src i; ip4_dst = ip4_dst i; ip_proto = ip_proto i; ip_ttl = ip_ttl i; tcp_src = tcp_src i; tcp_dst = tcp_dst i; udp_src = udp_src i; udp_dst = udp_dst i; icmp4_type = icmp4_type i; icmp4_code = icmp4_code i; arp_op = arp_op i; arp_spa = arp_spa i; arp_tpa = arp_tpa i; arp_sha = arp_sha i; arp_tha = arp_tha i },
  c.equal_where_same.ensures a b,
)
