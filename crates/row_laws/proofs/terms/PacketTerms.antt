-- What terms on ARP packets, IPv4 packets and requests for an address say, in the words of the network.
use Rattle.std.specs.Prelude.{◌≡◌, ◌<◌, ◌^◌, ◌==◌, ◌&&◌, ◌||◌, ℕ, Bool, true, false, cond, List, Some, None}
use Rattle.std.specs.List.{list_all}
use Rattle.std.proofs.Common.{refl, sym, ap, ◌∙◌, subst, arith}
use Rattle.std.proofs.Math.Bool.{and-true}
use Rattle.std.proofs.lemmas.Bool.{cond-true, and_parts, and_from, eqb-true, eq-eqb, false≢true}
use Rattle.std.proofs.lemmas.Option.{none-some, same_Some}
use native.Mathlib.Nat.{div-one}
use Rattle.ovn_base.specs.declared.address.Cidr.{Cidr}
use Rattle.ovn_base.specs.declared.address.Ip4.{Ip4}
use Rattle.ovn_base.specs.declared.address.Mac.{Mac}
use Rattle.inet_packet.specs.Fields as field
use Rattle.inet_packet.specs.Whole.{IsWhole, IsWholeBody, IsPart}
use Rattle.inet_packet.specs.declared.packet.Body.{Body}
use Rattle.inet_packet.specs.declared.packet.Body.TheVariants as body
use Rattle.inet_packet.specs.declared.packet.Packet.{Packet}
use Rattle.inet_packet.specs.declared.packet.Part.{Part}
use Rattle.inet_packet.specs.declared.packet.Part.TheVariants as part
use Rattle.match_language.specs.declared.field.Field.TheVariants as f
use Rattle.match_cubes.specs.Holds.{has_needs}
use Rattle.match_cubes.specs.Suited.{HasFieldsInRange}
use Rattle.nb_records.specs.Grammar.{IsIp4, IsCidr}
use Rattle.nb_records.specs.Routers.{contains}
use Rattle.net_model.specs.Headers.{carries_ip4, carries_arp, ip_of, src_of, dst_of, asked_ip, is_dhcp_request, broadcast_ip, group_network, is_for_many}
use Rattle.net_model.specs.Sights.{Sight, Roster, no_regs}
use Rattle.stage_rows.specs.Rows.{field_is, mac_is, ip_is, ip_in, ip_in_some, asks_for}
use Rattle.stage_rows.specs.SwitchRows.{dhcp_request, group_ips}
use Rattle.row_laws.proofs.terms.Terms.{says, says_is, says_in_prefix, says_in_two, whole, small, swapped}

-- ---- headers of whole packets

part_udp : (frag proto len : ℕ) (x : Part) → IsPart frag proto len x → (field.part_udp_src x == 68) ≡ true → proto ≡ 17
part_udp frag proto len (part.Udp src_port dst_port udp_len sum) h e = h.1
part_udp frag proto len (part.Tcp src_port dst_port middle sum urgent) h e = absurd (false≢true e)
part_udp frag proto len (part.Icmp kind code sum ident) h e = absurd (false≢true e)
part_udp frag proto len part.OtherIp h e = absurd (false≢true e)
part_udp frag proto len part.Fragment h e = absurd (false≢true e)

-- what comes from UDP port 68 is of UDP
udp_proto : (b : Body) (tail : List ℕ) → IsWholeBody b tail → (field.udp_src b == 68) ≡ true → field.ip_proto b ≡ 17
udp_proto (body.Ip4 i) tail h e = part_udp i.frag i.proto _ i.part h.named e
udp_proto (body.Arp a) tail h e = absurd (false≢true e)
udp_proto (body.Other t) tail h e = absurd (false≢true e)

module _ (who : Roster) (s : Sight) (range : HasFieldsInRange s.packet) where
  abbrev p : Packet
  p = s.packet

  -- ---- what is asked for before a field is read

  pub needs_ip4 : has_needs f.Ip4Src no_regs p ≡ carries_ip4 p
  needs_ip4 = and-true _ ∙ whole 16 (field.ether_type p.body) 0x800 (small who s range f.EthType refl 16 refl) (omega arith)

  needs_arp : has_needs f.ArpOp no_regs p ≡ carries_arp p
  needs_arp = and-true _ ∙ whole 16 (field.ether_type p.body) 0x806 (small who s range f.EthType refl 16 refl) (omega arith)

  needs_udp : has_needs f.UdpSrc no_regs p ≡ (carries_ip4 p && (field.ip_proto p.body == 17))
  needs_udp = λ i. whole 16 (field.ether_type p.body) 0x800 (small who s range f.EthType refl 16 refl) (omega arith) i && (and-true _ ∙ whole 8 (field.ip_proto p.body) 17 (small who s range f.IpProto refl 8 refl) (omega arith)) i

  -- ---- fields

  pub says_src_in : (c : Cidr) → IsCidr c → says who s (ip_in f.Ip4Src c) ≡ (carries_ip4 p && contains c (src_of p))
  says_src_in c h = says_in_prefix who s range f.Ip4Src refl refl c h.0 h.1 ∙ ap (λ b. b && contains c (src_of p)) needs_ip4

  pub says_dst_in : (c : Cidr) → IsCidr c → says who s (ip_in f.Ip4Dst c) ≡ (carries_ip4 p && contains c (dst_of p))
  says_dst_in c h = says_in_prefix who s range f.Ip4Dst refl refl c h.0 h.1 ∙ ap (λ b. b && contains c (dst_of p)) needs_ip4

  pub says_spa_in : (c : Cidr) → IsCidr c → says who s (ip_in f.ArpSpa c) ≡ (carries_arp p && contains c (ip_of (field.arp_spa p.body)))
  says_spa_in c h = says_in_prefix who s range f.ArpSpa refl refl c h.0 h.1 ∙ ap (λ b. b && contains c (ip_of (field.arp_spa p.body))) needs_arp

  pub says_sha : (m : Mac) → says who s (mac_is f.ArpSha m) ≡ (carries_arp p && (m.number == field.arp_sha p.body))
  says_sha m = says_is who s range f.ArpSha refl m.number m.below ∙ (λ i. needs_arp i && swapped (field.arp_sha p.body) m.number i)

  says_op : says who s (field_is f.ArpOp 1) ≡ (carries_arp p && (field.arp_op p.body == 1))
  says_op = says_is who s range f.ArpOp refl 1 (omega arith) ∙ ap (λ b. b && (field.arp_op p.body == 1)) needs_arp

  says_tpa : (ip : Ip4) → IsIp4 ip → says who s (ip_is f.ArpTpa ip) ≡ (carries_arp p && (field.arp_tpa p.body == ip.0))
  says_tpa ip h = says_is who s range f.ArpTpa refl ip.0 h ∙ ap (λ b. b && (field.arp_tpa p.body == ip.0)) needs_arp

  pub says_ip_dst : (ip : Ip4) → IsIp4 ip → says who s (ip_is f.Ip4Dst ip) ≡ (carries_ip4 p && (field.ip4_dst p.body == ip.0))
  says_ip_dst ip h = says_is who s range f.Ip4Dst refl ip.0 h ∙ ap (λ b. b && (field.ip4_dst p.body == ip.0)) needs_ip4

  pub says_for_many : says who s (ip_in_some f.Ip4Dst group_ips) ≡ (carries_ip4 p && is_for_many (dst_of p))
  says_for_many =
      says_in_two who s range f.Ip4Dst refl refl group_network (record { addr = ip_of 0xffff_ffff; len = 32 }) (omega arith) (omega arith) (omega arith) (omega arith)
      ∙ (λ i. needs_ip4 i && (contains group_network (dst_of p) || (div-one (field.ip4_dst p.body) i == broadcast_ip)))

  -- ---- requests for an address

  abbrev asks : Bool
  asks = carries_arp p && (field.arp_op p.body == 1)

  pub asks_from : (ip : Ip4) → IsIp4 ip → list_all (says who s) (asks_for ip) ≡ true → asked_ip p ≡ Some ip
  asks_from ip small' h =
      let two = and_parts (says who s (field_is f.ArpOp 1)) _ h in
      let op = sym says_op ∙ two.0 in
      let tpa = sym (says_tpa ip small') ∙ (and_parts (says who s (ip_is f.ArpTpa ip)) true two.1).0 in
      let same = eqb-true (field.arp_tpa p.body) ip.0 (and_parts (carries_arp p) _ tpa).1 in
      cond-true asks (Some (ip_of (field.arp_tpa p.body))) None op ∙ ap (λ n. Some (ip_of n)) same

  asked_by : (b : Bool) (ip : Ip4) → asks ≡ b → cond b (Some (ip_of (field.arp_tpa p.body))) None ≡ Some ip → (asks ≡ true) × (field.arp_tpa p.body ≡ ip.0)
  asked_by true ip is e = (is, ap (λ (x : Ip4). x.0) (same_Some (ip_of (field.arp_tpa p.body)) ip e))
  asked_by false ip is e = absurd (none-some ip e)

  pub asks_to : (ip : Ip4) → asked_ip p ≡ Some ip → list_all (says who s) (asks_for ip) ≡ true
  asks_to ip e =
      let k = asked_by asks ip refl e in
      let small' : IsIp4 ip = subst (λ (n : ℕ). n < 2 ^ 32) k.1 (small who s range f.ArpTpa refl 32 refl) in
      and_from (says who s (field_is f.ArpOp 1)) _ (says_op ∙ k.0)
      (and_from (says who s (ip_is f.ArpTpa ip)) true (says_tpa ip small' ∙ and_from (carries_arp p) _ (and_parts (carries_arp p) _ k.0).0 (eq-eqb (field.arp_tpa p.body) ip.0 k.1)) refl)

  -- ---- requests by one that has no address yet

  says_from_none : says who s (field_is f.Ip4Src 0) ≡ (carries_ip4 p && (field.ip4_src p.body == 0))
  says_from_none = says_is who s range f.Ip4Src refl 0 (omega arith) ∙ ap (λ b. b && (field.ip4_src p.body == 0)) needs_ip4

  says_to_all : says who s (field_is f.Ip4Dst 0xffff_ffff) ≡ (carries_ip4 p && (field.ip4_dst p.body == 0xffff_ffff))
  says_to_all = says_is who s range f.Ip4Dst refl 0xffff_ffff (omega arith) ∙ ap (λ b. b && (field.ip4_dst p.body == 0xffff_ffff)) needs_ip4

  says_from_68 : says who s (field_is f.UdpSrc 68) ≡ ((carries_ip4 p && (field.ip_proto p.body == 17)) && (field.udp_src p.body == 68))
  says_from_68 = says_is who s range f.UdpSrc refl 68 (omega arith) ∙ ap (λ b. b && (field.udp_src p.body == 68)) needs_udp

  says_to_67 : says who s (field_is f.UdpDst 67) ≡ ((carries_ip4 p && (field.ip_proto p.body == 17)) && (field.udp_dst p.body == 67))
  says_to_67 = says_is who s range f.UdpDst refl 67 (omega arith) ∙ ap (λ b. b && (field.udp_dst p.body == 67)) needs_udp

  pub dhcp_from : list_all (says who s) dhcp_request ≡ true → (carries_ip4 p ≡ true) × (is_dhcp_request p ≡ true)
  dhcp_from h =
      let one = and_parts (says who s (field_is f.Ip4Src 0)) _ h in
      let two = and_parts (says who s (field_is f.Ip4Dst 0xffff_ffff)) _ one.1 in
      let three = and_parts (says who s (field_is f.UdpSrc 68)) _ two.1 in
      let four = and_parts (says who s (field_is f.UdpDst 67)) true three.1 in
      let src = and_parts (carries_ip4 p) (field.ip4_src p.body == 0) (sym says_from_none ∙ one.0) in
      let dst = and_parts (carries_ip4 p) (field.ip4_dst p.body == 0xffff_ffff) (sym says_to_all ∙ two.0) in
      let from = and_parts (carries_ip4 p && (field.ip_proto p.body == 17)) (field.udp_src p.body == 68) (sym says_from_68 ∙ three.0) in
      let to = and_parts (carries_ip4 p && (field.ip_proto p.body == 17)) (field.udp_dst p.body == 67) (sym says_to_67 ∙ four.0) in
      (src.0, (λ i. src.1 i && (dst.1 i && (from.1 i && to.1 i))))

  pub dhcp_to : IsWhole p → carries_ip4 p ≡ true → is_dhcp_request p ≡ true → list_all (says who s) dhcp_request ≡ true
  dhcp_to is ip4 h =
      let one = and_parts (field.ip4_src p.body == 0) _ h in
      let two = and_parts (field.ip4_dst p.body == broadcast_ip) _ one.1 in
      let three = and_parts (field.udp_src p.body == 68) (field.udp_dst p.body == 67) two.1 in
      let udp = eq-eqb (field.ip_proto p.body) 17 (udp_proto p.body p.tail is.body three.0) in
      let src = says_from_none ∙ (λ i. ip4 i && one.0 i) in
      let dst = says_to_all ∙ (λ i. ip4 i && two.0 i) in
      let from = says_from_68 ∙ (λ i. (ip4 i && udp i) && three.0 i) in
      let to = says_to_67 ∙ (λ i. (ip4 i && udp i) && three.1 i) in
      λ i. src i && (dst i && (from i && (to i && true)))

  -- no packet is of both
  pub not_both : carries_ip4 p ≡ true → carries_arp p ≡ true → ⊥
  not_both ip4 arp = let a = eqb-true (field.ether_type p.body) 0x800 ip4 in let b = eqb-true (field.ether_type p.body) 0x806 arp in omega (arith, a, b)
