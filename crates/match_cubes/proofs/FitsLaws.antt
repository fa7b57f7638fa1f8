-- A cube that asks for fields alone holds a packet with its registers exactly where they have what it asks of the fields.
use Rattle.std.specs.Prelude.{◌≡◌, Bool, true, false, cond, List, [], ◌∷◌, ◌++◌, map, flat_map, bit_and}
use Rattle.std.specs.List.{list_all}
use Rattle.std.proofs.Common.{refl, sym, ap, ◌∙◌, subst, arith, inl, inr, ◌⊎◌}
use Rattle.std.proofs.lemmas.Bool.{eqb-true, eq-eqb, and_from, or_cases, or_left, or_right, false≢true}
use Rattle.std.proofs.lemmas.List.Sums.{AllPass-from_list_all}
use lib.Bits.{and_zero_r}
use Rattle.ovn_base.specs.lists.Among.{Among, here, there}
use Rattle.inet_packet.specs.declared.cube.Bits.{Bits}
use Rattle.inet_packet.specs.declared.cube.Cube.{Cube}
use Rattle.inet_packet.specs.declared.packet.Packet.{Packet}
use Rattle.inet_packet.specs.declared.regs.Regs.{Regs}
use Rattle.inet_packet.specs.Fits.{CubeFits}
use Rattle.match_language.specs.declared.expr.Expr.{Expr}
use Rattle.match_language.specs.declared.field.Field.{Field}
use Rattle.match_language.specs.declared.field.Field.TheVariants as f
use Rattle.match_language.specs.Tables.{all_fields}
use Rattle.match_cubes.specs.Ternary.{fits, meets}
use Rattle.match_cubes.specs.Asked.{number_in, asked_of_field, cube_of, all_packets, is_in_cube, in_one, agree_all, joined_all, meet}
use Rattle.match_cubes.specs.Points.{Setting}
use Rattle.match_cubes.specs.Holds.{holds}
use Rattle.match_cubes.specs.Cubes.{alternatives, comparing, meets_with, all_cubes, constant_cubes, as_cubes, cubes_in}
use Rattle.match_cubes.specs.Suited.{are_suited}
use Rattle.match_cubes.specs.Answer.{InOne, AreExact}
use Rattle.match_cubes.proofs.Relations.{Zips, zips_none, zips_more, related, always}
use Rattle.match_cubes.proofs.Exactness.{cubes_hold}

-- ---- a cube of fields

module _ (regs : Regs) (packet : Packet) (b : Field → Bits) where
  abbrev has : Field → Bool
  has g = fits (b g) (number_in g regs packet)

  fits_from : (g : Field) → has g ≡ true → bit_and (number_in g regs packet) (b g).mask ≡ (b g).value
  fits_from g h = eqb-true (bit_and (number_in g regs packet) (b g).mask) (b g).value h

  -- what the cube asks for is there
  in_fits : is_in_cube regs packet (cube_of b) ≡ true → CubeFits (cube_of b) regs packet
  in_fits h =
      let each = AllPass-from_list_all has all_fields h in
      record {
        entry = tt;
        place = record { dp_fits = and_zero_r regs.dp; in_port_fits = fits_from f.Inport (each 18 f.Inport (omega arith)); out_port_fits = fits_from f.Outport (each 19 f.Outport (omega arith)); next_fits = and_zero_r regs.next };
        zones = record { z_in_fits = and_zero_r regs.z_in; z_out_fits = and_zero_r regs.z_out; z_dnat_fits = and_zero_r regs.z_dnat; z_snat_fits = and_zero_r regs.z_snat };
        state = record { state_fits = and_zero_r regs.state; verdict_fits = and_zero_r regs.verdict; tier_fits = and_zero_r regs.tier; flags_fits = and_zero_r regs.flags.0 };
        ether = record { eth_src_fits = fits_from f.EthSrc (each 0 f.EthSrc (omega arith)); eth_dst_fits = fits_from f.EthDst (each 1 f.EthDst (omega arith)); eth_type_fits = fits_from f.EthType (each 2 f.EthType (omega arith)) };
        ip = record { ip4_src_fits = fits_from f.Ip4Src (each 8 f.Ip4Src (omega arith)); ip4_dst_fits = fits_from f.Ip4Dst (each 9 f.Ip4Dst (omega arith)); ip_proto_fits = fits_from f.IpProto (each 10 f.IpProto (omega arith)); ip_ttl_fits = fits_from f.IpTtl (each 11 f.IpTtl (omega arith)) };
        ports = record { tcp_src_fits = fits_from f.TcpSrc (each 14 f.TcpSrc (omega arith)); tcp_dst_fits = fits_from f.TcpDst (each 15 f.TcpDst (omega arith)); udp_src_fits = fits_from f.UdpSrc (each 16 f.UdpSrc (omega arith)); udp_dst_fits = fits_from f.UdpDst (each 17 f.UdpDst (omega arith)) };
        icmp = record { icmp4_type_fits = fits_from f.Icmp4Type (each 12 f.Icmp4Type (omega arith)); icmp4_code_fits = fits_from f.Icmp4Code (each 13 f.Icmp4Code (omega arith)) };
        arp = record { arp_op_fits = fits_from f.ArpOp (each 3 f.ArpOp (omega arith)); arp_spa_fits = fits_from f.ArpSpa (each 4 f.ArpSpa (omega arith)); arp_tpa_fits = fits_from f.ArpTpa (each 5 f.ArpTpa (omega arith)); arp_sha_fits = fits_from f.ArpSha (each 6 f.ArpSha (omega arith)); arp_tha_fits = fits_from f.ArpTha (each 7 f.ArpTha (omega arith)) };
      }

  fits_back : (g : Field) → bit_and (number_in g regs packet) (b g).mask ≡ (b g).value → has g ≡ true
  fits_back g h = eq-eqb (bit_and (number_in g regs packet) (b g).mask) (b g).value h

  pass_more : (g : Field) (gs : List Field) → has g ≡ true → list_all has gs ≡ true → list_all has (g ∷ gs) ≡ true
  pass_more g gs h k = and_from (has g) (list_all has gs) h k

  fits_in : CubeFits (cube_of b) regs packet → is_in_cube regs packet (cube_of b) ≡ true
  fits_in k =
      pass_more f.EthSrc (f.EthDst ∷ f.EthType ∷ f.ArpOp ∷ f.ArpSpa ∷ f.ArpTpa ∷ f.ArpSha ∷ f.ArpTha ∷ f.Ip4Src ∷ f.Ip4Dst ∷ f.IpProto ∷ f.IpTtl ∷ f.Icmp4Type ∷ f.Icmp4Code ∷ f.TcpSrc ∷ f.TcpDst ∷ f.UdpSrc ∷ f.UdpDst ∷ f.Inport ∷ f.Outport ∷ []) (fits_back f.EthSrc k.ether.eth_src_fits) (
      pass_more f.EthDst (f.EthType ∷ f.ArpOp ∷ f.ArpSpa ∷ f.ArpTpa ∷ f.ArpSha ∷ f.ArpTha ∷ f.Ip4Src ∷ f.Ip4Dst ∷ f.IpProto ∷ f.IpTtl ∷ f.Icmp4Type ∷ f.Icmp4Code ∷ f.TcpSrc ∷ f.TcpDst ∷ f.UdpSrc ∷ f.UdpDst ∷ f.Inport ∷ f.Outport ∷ []) (fits_back f.EthDst k.ether.eth_dst_fits) (
      pass_more f.EthType (f.ArpOp ∷ f.ArpSpa ∷ f.ArpTpa ∷ f.ArpSha ∷ f.ArpTha ∷ f.Ip4Src ∷ f.Ip4Dst ∷ f.IpProto ∷ f.IpTtl ∷ f.Icmp4Type ∷ f.Icmp4Code ∷ f.TcpSrc ∷ f.TcpDst ∷ f.UdpSrc ∷ f.UdpDst ∷ f.Inport ∷ f.Outport ∷ []) (fits_back f.EthType k.ether.eth_type_fits) (
      pass_more f.ArpOp (f.ArpSpa ∷ f.ArpTpa ∷ f.ArpSha ∷ f.ArpTha ∷ f.Ip4Src ∷ f.Ip4Dst ∷ f.IpProto ∷ f.IpTtl ∷ f.Icmp4Type ∷ f.Icmp4Code ∷ f.TcpSrc ∷ f.TcpDst ∷ f.UdpSrc ∷ f.UdpDst ∷ f.Inport ∷ f.Outport ∷ []) (fits_back f.ArpOp k.arp.arp_op_fits) (
      pass_more f.ArpSpa (f.ArpTpa ∷ f.ArpSha ∷ f.ArpTha ∷ f.Ip4Src ∷ f.Ip4Dst ∷ f.IpProto ∷ f.IpTtl ∷ f.Icmp4Type ∷ f.Icmp4Code ∷ f.TcpSrc ∷ f.TcpDst ∷ f.UdpSrc ∷ f.UdpDst ∷ f.Inport ∷ f.Outport ∷ []) (fits_back f.ArpSpa k.arp.arp_spa_fits) (
      pass_more f.ArpTpa (f.ArpSha ∷ f.ArpTha ∷ f.Ip4Src ∷ f.Ip4Dst ∷ f.IpProto ∷ f.IpTtl ∷ f.Icmp4Type ∷ f.Icmp4Code ∷ f.TcpSrc ∷ f.TcpDst ∷ f.UdpSrc ∷ f.UdpDst ∷ f.Inport ∷ f.Outport ∷ []) (fits_back f.ArpTpa k.arp.arp_tpa_fits) (
      pass_more f.ArpSha (f.ArpTha ∷ f.Ip4Src ∷ f.Ip4Dst ∷ f.IpProto ∷ f.IpTtl ∷ f.Icmp4Type ∷ f.Icmp4Code ∷ f.TcpSrc ∷ f.TcpDst ∷ f.UdpSrc ∷ f.UdpDst ∷ f.Inport ∷ f.Outport ∷ []) (fits_back f.ArpSha k.arp.arp_sha_fits) (
      pass_more f.ArpTha (f.Ip4Src ∷ f.Ip4Dst ∷ f.IpProto ∷ f.IpTtl ∷ f.Icmp4Type ∷ f.Icmp4Code ∷ f.TcpSrc ∷ f.TcpDst ∷ f.UdpSrc ∷ f.UdpDst ∷ f.Inport ∷ f.Outport ∷ []) (fits_back f.ArpTha k.arp.arp_tha_fits) (
      pass_more f.Ip4Src (f.Ip4Dst ∷ f.IpProto ∷ f.IpTtl ∷ f.Icmp4Type ∷ f.Icmp4Code ∷ f.TcpSrc ∷ f.TcpDst ∷ f.UdpSrc ∷ f.UdpDst ∷ f.Inport ∷ f.Outport ∷ []) (fits_back f.Ip4Src k.ip.ip4_src_fits) (
      pass_more f.Ip4Dst (f.IpProto ∷ f.IpTtl ∷ f.Icmp4Type ∷ f.Icmp4Code ∷ f.TcpSrc ∷ f.TcpDst ∷ f.UdpSrc ∷ f.UdpDst ∷ f.Inport ∷ f.Outport ∷ []) (fits_back f.Ip4Dst k.ip.ip4_dst_fits) (
      pass_more f.IpProto (f.IpTtl ∷ f.Icmp4Type ∷ f.Icmp4Code ∷ f.TcpSrc ∷ f.TcpDst ∷ f.UdpSrc ∷ f.UdpDst ∷ f.Inport ∷ f.Outport ∷ []) (fits_back f.IpProto k.ip.ip_proto_fits) (
      pass_more f.IpTtl (f.Icmp4Type ∷ f.Icmp4Code ∷ f.TcpSrc ∷ f.TcpDst ∷ f.UdpSrc ∷ f.UdpDst ∷ f.Inport ∷ f.Outport ∷ []) (fits_back f.IpTtl k.ip.ip_ttl_fits) (
      pass_more f.Icmp4Type (f.Icmp4Code ∷ f.TcpSrc ∷ f.TcpDst ∷ f.UdpSrc ∷ f.UdpDst ∷ f.Inport ∷ f.Outport ∷ []) (fits_back f.Icmp4Type k.icmp.icmp4_type_fits) (
      pass_more f.Icmp4Code (f.TcpSrc ∷ f.TcpDst ∷ f.UdpSrc ∷ f.UdpDst ∷ f.Inport ∷ f.Outport ∷ []) (fits_back f.Icmp4Code k.icmp.icmp4_code_fits) (
      pass_more f.TcpSrc (f.TcpDst ∷ f.UdpSrc ∷ f.UdpDst ∷ f.Inport ∷ f.Outport ∷ []) (fits_back f.TcpSrc k.ports.tcp_src_fits) (
      pass_more f.TcpDst (f.UdpSrc ∷ f.UdpDst ∷ f.Inport ∷ f.Outport ∷ []) (fits_back f.TcpDst k.ports.tcp_dst_fits) (
      pass_more f.UdpSrc (f.UdpDst ∷ f.Inport ∷ f.Outport ∷ []) (fits_back f.UdpSrc k.ports.udp_src_fits) (
      pass_more f.UdpDst (f.Inport ∷ f.Outport ∷ []) (fits_back f.UdpDst k.ports.udp_dst_fits) (
      pass_more f.Inport (f.Outport ∷ []) (fits_back f.Inport k.place.in_port_fits) (
      pass_more f.Outport ([]) (fits_back f.Outport k.place.out_port_fits) refl)))))))))))))))))))

-- ---- the cubes of a match ask for fields alone

abbrev pub IsMade : Cube → Type 0
IsMade c = c ≡ cube_of (λ g. asked_of_field g c)

abbrev pub AreMade : List Cube → Type 0
AreMade [] = Unit {0}
AreMade (c ∷ cs) = IsMade c × AreMade cs

made_cat : (cs ds : List Cube) → AreMade cs → AreMade ds → AreMade (cs ++ ds)
made_cat [] ds h k = k
made_cat (c ∷ cs) ds h k = (h.0, made_cat cs ds h.1 k)

comparing_made : (g : Field) (x : Bits) → IsMade (comparing g x)
unfolding comparing
comparing_made f.EthSrc x = refl
comparing_made _ x = refl

made_compared : (g : Field) (bs : List Bits) → AreMade (map (comparing g) bs)
made_compared g [] = tt
made_compared g (x ∷ bs) = (comparing_made g x, made_compared g bs)

made_by : (a c : Cube) (r : Bool) → AreMade (cond r (joined_all a c ∷ []) [])
made_by a c true = (refl, tt)
made_by a c false = tt

made_meet : (a c : Cube) → AreMade (meet a c)
unfolding meet
made_meet a c = made_by a c (agree_all a c)

made_one : (c : Cube) (ds : List Cube) → AreMade (flat_map (meet c) ds)
made_one c [] = tt
made_one c (d ∷ ds) = made_cat (meet c d) (flat_map (meet c) ds) (made_meet c d) (made_one c ds)

made_meets : (cs ds : List Cube) → AreMade (meets meet cs ds)
unfolding meets
made_meets [] ds = tt
made_meets (c ∷ cs) ds = made_cat (flat_map (meet c) ds) (flat_map (λ x. flat_map (meet x) ds) cs) (made_one c ds) (made_meets cs ds)

made_with : (so_far : List Cube) (xs ys : List (List Cube)) → AreMade so_far → Zips (λ cs ds. AreMade cs) xs ys → AreMade (meets_with so_far xs)
unfolding meets_with
made_with so_far [] [] h zips_none = h
made_with so_far (x ∷ xs) (y ∷ ys) h (zips_more _ _ _ _ k z) = made_with (meets meet so_far x) xs ys (made_meets so_far x) z
made_with so_far [] (y ∷ ys) h z = elim z [ ]
made_with so_far (x ∷ xs) [] h z = elim z [ ]

made_either : (xs ys : List (List Cube)) → Zips (λ cs ds. AreMade cs) xs ys → AreMade (all_cubes xs)
unfolding all_cubes
made_either [] [] zips_none = tt
made_either (x ∷ xs) (y ∷ ys) (zips_more _ _ _ _ k z) = made_cat x (flat_map (λ cs. cs) xs) k (made_either xs ys z)
made_either [] (y ∷ ys) z = elim z [ ]
made_either (x ∷ xs) [] z = elim z [ ]

made_constant : (b : Bool) → AreMade (constant_cubes b)
made_constant true = (refl, tt)
made_constant false = tt

pub cubes_made : (s : Setting) (e : Expr) (positive : Bool) → AreMade (cubes_in s e positive)
unfolding cubes_in
cubes_made s e positive =
    related (as_cubes s) (as_cubes s) (λ g rel xs. true) (λ cs ds. AreMade cs) made_constant (λ g rel xs h. made_compared g (alternatives s g rel xs)) (λ xs ys z. made_with (all_packets ∷ []) xs ys (refl, tt) z) made_either e positive (always e positive)

-- ---- one of the cubes

module _ (regs : Regs) (packet : Packet) where
  one_in : (c : Cube) → IsMade c → CubeFits c regs packet → is_in_cube regs packet c ≡ true
  one_in c made h = fits_in regs packet (λ g. asked_of_field g c) (subst (λ (d : Cube). CubeFits d regs packet) made h)

  one_fits : (c : Cube) → IsMade c → is_in_cube regs packet c ≡ true → CubeFits c regs packet
  one_fits c made h = subst (λ (d : Cube). CubeFits d regs packet) (sym made) (in_fits regs packet (λ g. asked_of_field g c) h)

  found_in : (c : Cube) (cs : List Cube) → AreMade cs → Among c cs → CubeFits c regs packet → in_one regs packet cs ≡ true
  found_in c (_ ∷ cs) made here h = or_left (is_in_cube regs packet c) (in_one regs packet cs) (one_in c made.0 h)
  found_in c (d ∷ cs) made (there m) h = or_right (is_in_cube regs packet d) (in_one regs packet cs) (found_in c cs made.1 m h)
  found_in c [] made m h = elim m [ ]

  in_more : (d : Cube) (cs : List Cube) → InOne cs regs packet → InOne (d ∷ cs) regs packet
  in_more d cs one = record { cube = one.cube; among = there one.among; fits = one.fits }

  in_found_by : (c : Cube) (cs : List Cube) → AreMade (c ∷ cs) → (is_in_cube regs packet c ≡ true) ⊎ (in_one regs packet cs ≡ true) → (AreMade cs → in_one regs packet cs ≡ true → InOne cs regs packet) → InOne (c ∷ cs) regs packet
  in_found_by c cs made (inl h) rest = record { cube = c; among = here; fits = one_fits c made.0 h }
  in_found_by c cs made (inr h) rest = in_more c cs (rest made.1 h)

  in_found : (cs : List Cube) → AreMade cs → in_one regs packet cs ≡ true → InOne cs regs packet
  in_found [] made h = absurd (false≢true h)
  in_found (c ∷ cs) made h =
      in_found_by c cs made (or_cases (is_in_cube regs packet c) (in_one regs packet cs) h) (in_found cs)

-- The cubes of a match that is suited are exact.
pub cubes_exact : (s : Setting) (e : Expr) (cs : List Cube) → are_suited e true ≡ true → cs ≡ cubes_in s e true → AreExact s e cs
cubes_exact s e cs h is regs packet range =
    let same : in_one regs packet cs ≡ holds s e regs packet = ap (in_one regs packet) is ∙ cubes_hold s regs packet range e true h in
    let made : AreMade cs = subst AreMade (sym is) (cubes_made s e true) in
    (λ one. sym same ∙ found_in regs packet one.cube cs made one.among one.fits, λ k. in_found regs packet cs made (same ∙ k))
