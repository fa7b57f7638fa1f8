-- What the terms of r_input say of a packet: addresses that no router passes on, a time to live that ends, and echo requests.
use Rattle.std.specs.Prelude.{◌≡◌, ◌≤◌, ◌==◌, ◌&&◌, ◌||◌, ℕ, zero, suc, Bool, true, false, cond, nat_le, List, [], ◌∷◌, map, Some, None}
use Rattle.std.specs.Option.{option_map}
use Rattle.std.proofs.Common.{refl, sym, ap, ◌∙◌, arith, inl, inr}
use Rattle.std.proofs.Math.Bool.{or-false, and-true}
use Rattle.std.proofs.lemmas.Bool.{cond-false, and_parts, and_from, or_cases, eqb-true, eq-eqb, leb-true, le-leb, false≢true}
use native.Mathlib.Nat.{div-one}
use Rattle.conn_table.specs.Tuples.{tuple_between, ip4_tuple, body_tuple}
use Rattle.conn_table.specs.declared.tuple.Protocol.TheVariants as protocol
use Rattle.inet_packet.specs.Fields as field
use Rattle.inet_packet.specs.Whole.{IsPart, IsWholeBody}
use Rattle.inet_packet.specs.declared.packet.Body.{Body}
use Rattle.inet_packet.specs.declared.packet.Body.TheVariants as body
use Rattle.inet_packet.specs.declared.packet.Ip4Packet.{Ip4Packet}
use Rattle.inet_packet.specs.declared.packet.Packet.{Packet}
use Rattle.inet_packet.specs.declared.packet.Part.{Part}
use Rattle.inet_packet.specs.declared.packet.Part.TheVariants as part
use Rattle.match_language.specs.Tables.{field_bits, is_port_field}
use Rattle.match_language.specs.declared.expr.Rel.TheVariants as r
use Rattle.match_language.specs.declared.field.Field.{Field}
use Rattle.match_language.specs.declared.field.Field.TheVariants as f
use Rattle.match_cubes.proofs.Cases.{meaning_compare}
use Rattle.match_cubes.proofs.TernaryLaws.{same_tests}
use Rattle.match_cubes.specs.Asked.{number_in}
use Rattle.match_cubes.specs.Holds.{stands_in, has_needs}
use Rattle.match_cubes.specs.Points.{points}
use Rattle.match_cubes.specs.Suited.{HasFieldsInRange}
use Rattle.net_model.specs.Headers.{carries_ip4, ip_of, src_of, dst_of, is_bad_ip, broadcast_ip}
use Rattle.net_model.specs.RouterInput.{is_echo_request}
use Rattle.net_model.specs.Sights.{Sight, Roster, no_regs, port_in, port_relates, numbers_of, truth_at}
use Rattle.stage_rows.specs.RouterRows.{unroutable, from_or_to_unroutable}
use Rattle.stage_rows.specs.Rows.{field_is, field_among, whole_number, ip_in_some, prefix_value}
use Rattle.row_laws.proofs.terms.PacketTerms.{needs_ip4}
use Rattle.row_laws.proofs.terms.Terms.{says, says_is, says_either, in_prefix, whole, small}

few_to : (n : ℕ) → n ≤ 1 → ((n == 0) || (n == 1)) ≡ true
few_to zero h = refl
few_to (suc zero) h = refl
few_to (suc (suc n)) h = absurd (omega (arith, h))

few : (n : ℕ) → ((n == 0) || (n == 1)) ≡ nat_le n 1
few n =
    same_tests ((n == 0) || (n == 1)) (nat_le n 1)
    (λ h. elim (or_cases (n == 0) (n == 1) h) [ inl e ↦ (let k = eqb-true n 0 e in le-leb n 1 (omega (arith, k))) | inr e ↦ (let k = eqb-true n 1 e in le-leb n 1 (omega (arith, k))) ]) (λ h. few_to n (leb-true n 1 h))

spread : (a x y : Bool) → ((a && x) || (a && y)) ≡ (a && (x || y))
spread true x y = refl
spread false x y = refl

-- ---- echo requests

part_from : (i : Ip4Packet) (x : Part) → (field.part_icmp4_type x == 8) ≡ true → (field.part_icmp4_code x == 0) ≡ true → is_echo_request (ip4_tuple i x) ≡ true
part_from i (part.Icmp kind code sum ident) h k =
    ap (λ b. is_echo_request (option_map (λ protocol. tuple_between protocol ident ident i) (cond b (Some protocol.EchoRequest) (cond (code == 0 && kind == 0) (Some protocol.EchoReply) None)))) (and_from (code == 0) (kind == 8) k h)
part_from i (part.Tcp src_port dst_port middle sum urgent) h k = absurd (false≢true h)
part_from i (part.Udp src_port dst_port len sum) h k = absurd (false≢true h)
part_from i part.OtherIp h k = absurd (false≢true h)
part_from i part.Fragment h k = absurd (false≢true h)

echo_from : (b : Body) → (field.icmp4_type b == 8) ≡ true → (field.icmp4_code b == 0) ≡ true → is_echo_request (body_tuple b) ≡ true
echo_from (body.Ip4 i) h k = part_from i i.part h k
echo_from (body.Arp a) h k = absurd (false≢true h)
echo_from (body.Other t) h k = absurd (false≢true h)

-- the header is one of an echo request
record IsEcho (proto kind code : ℕ) : Type 0 where
  icmp : proto ≡ 1
  request : (kind == 8) ≡ true
  plain : (code == 0) ≡ true

-- a packet of ICMP that is one has its type and its code
pub icmp_to : (i : Ip4Packet) (kind code ident : ℕ) (b c : Bool) → (code == 0 && kind == 8) ≡ b
    → is_echo_request (option_map (λ protocol. tuple_between protocol ident ident i) (cond b (Some protocol.EchoRequest) (cond c (Some protocol.EchoReply) None))) ≡ true → (code == 0 && kind == 8) ≡ true
icmp_to i kind code ident true c is h = is
icmp_to i kind code ident false true is h = absurd (false≢true h)
icmp_to i kind code ident false false is h = absurd (false≢true h)

-- a packet of another protocol is none
pub other_to : (i : Ip4Packet) (b : Bool) → is_echo_request (cond b None (Some (tuple_between (protocol.Other i.proto) 0 0 i))) ≡ true → ⊥
other_to i true h = false≢true h
other_to i false h = false≢true h

part_to : (i : Ip4Packet) (len : ℕ) (x : Part) → IsPart i.frag i.proto len x → is_echo_request (ip4_tuple i x) ≡ true → IsEcho i.proto (field.part_icmp4_type x) (field.part_icmp4_code x)
part_to i len (part.Icmp kind code sum ident) named h =
    let two = and_parts (code == 0) (kind == 8) (icmp_to i kind code ident (code == 0 && kind == 8) (code == 0 && kind == 0) refl h) in
    record { icmp = named.1; request = two.1; plain = two.0 }
part_to i len (part.Tcp src_port dst_port middle sum urgent) named h = absurd (false≢true h)
part_to i len (part.Udp src_port dst_port size sum) named h = absurd (false≢true h)
part_to i len part.OtherIp named h = absurd (other_to i (i.proto == 1) h)
part_to i len part.Fragment named h = absurd (false≢true h)

echo_to : (b : Body) (tail : List ℕ) → IsWholeBody b tail → is_echo_request (body_tuple b) ≡ true → IsEcho (field.ip_proto b) (field.icmp4_type b) (field.icmp4_code b)
echo_to (body.Ip4 i) tail h e = part_to i _ i.part h.named e
echo_to (body.Arp a) tail h e = absurd (false≢true e)
echo_to (body.Other t) tail h e = absurd (false≢true e)

-- it is one of IPv4
pub echo_ip4 : (b : Body) → is_echo_request (body_tuple b) ≡ true → (field.ether_type b == 0x0800) ≡ true
echo_ip4 (body.Ip4 i) e = refl
echo_ip4 (body.Arp a) e = absurd (false≢true e)
echo_ip4 (body.Other t) e = absurd (false≢true e)

module _ (who : Roster) (s : Sight) (range : HasFieldsInRange s.packet) where
  abbrev p : Packet
  p = s.packet

  -- ---- addresses

  bad_in : (g : Field) → is_port_field g ≡ false → field_bits g ≡ 32 → says who s (ip_in_some g unroutable) ≡ (has_needs g no_regs p && is_bad_ip (ip_of (number_in g no_regs p)))
  unfolding stands_in points
  bad_in g other wide =
      let n : ℕ = number_in g no_regs p in
      let fit = small who s range g other 32 wide in
      meaning_compare (truth_at who s) true g r.Eq (map prefix_value unroutable)
      ∙ ap (λ b. has_needs g no_regs p && b)
      (cond-false (is_port_field g) (port_relates who (port_in s g) r.Eq (map prefix_value unroutable)) (stands_in (numbers_of who) g r.Eq (map prefix_value unroutable) n) other
      ∙ (λ i. in_prefix n 0 8 fit (omega arith) (omega arith) i || (in_prefix n 0x7f00_0000 8 fit (omega arith) (omega arith) i || (in_prefix n 0xe000_0000 4 fit (omega arith) (omega arith) i || (or-false _ ∙ in_prefix n 0xffff_ffff 32 fit (omega arith) (omega arith) ∙ ap (λ k. k == broadcast_ip) (div-one n)) i))))

  pub says_unroutable : says who s from_or_to_unroutable ≡ (carries_ip4 p && (is_bad_ip (src_of p) || is_bad_ip (dst_of p)))
  says_unroutable =
      says_either who s (ip_in_some f.Ip4Src unroutable) (ip_in_some f.Ip4Dst unroutable)
      ∙ (λ i. (bad_in f.Ip4Src refl refl ∙ ap (λ b. b && is_bad_ip (src_of p)) (needs_ip4 who s range)) i || (bad_in f.Ip4Dst refl refl ∙ ap (λ b. b && is_bad_ip (dst_of p)) (needs_ip4 who s range)) i)
      ∙ spread (carries_ip4 p) (is_bad_ip (src_of p)) (is_bad_ip (dst_of p))

  -- ---- the time to live

  pub says_ttl : says who s (field_among f.IpTtl (0 ∷ 1 ∷ [])) ≡ (carries_ip4 p && nat_le (field.ip_ttl p.body) 1)
  unfolding stands_in points
  says_ttl =
      let n : ℕ = field.ip_ttl p.body in
      let fit = small who s range f.IpTtl refl 8 refl in
      meaning_compare (truth_at who s) true f.IpTtl r.Eq (map (whole_number f.IpTtl) (0 ∷ 1 ∷ []))
      ∙ (λ i. needs_ip4 who s range i && (whole 8 n 0 fit (omega arith) i || (or-false _ ∙ whole 8 n 1 fit (omega arith)) i))
      ∙ ap (λ b. carries_ip4 p && b) (few n)

  -- ---- echo requests

  abbrev icmp : Bool
  icmp = carries_ip4 p && (field.ip_proto p.body == 1)

  needs_icmp : has_needs f.Icmp4Type no_regs p ≡ icmp
  needs_icmp = λ i. whole 16 (field.ether_type p.body) 0x800 (small who s range f.EthType refl 16 refl) (omega arith) i && (and-true _ ∙ whole 8 (field.ip_proto p.body) 1 (small who s range f.IpProto refl 8 refl) (omega arith)) i

  pub says_type : says who s (field_is f.Icmp4Type 8) ≡ (icmp && (field.icmp4_type p.body == 8))
  says_type = says_is who s range f.Icmp4Type refl 8 (omega arith) ∙ ap (λ b. b && (field.icmp4_type p.body == 8)) needs_icmp

  pub says_code : says who s (field_is f.Icmp4Code 0) ≡ (icmp && (field.icmp4_code p.body == 0))
  says_code = says_is who s range f.Icmp4Code refl 0 (omega arith) ∙ ap (λ b. b && (field.icmp4_code p.body == 0)) needs_icmp

  pub request_from : says who s (field_is f.Icmp4Type 8) ≡ true → says who s (field_is f.Icmp4Code 0) ≡ true → is_echo_request (body_tuple p.body) ≡ true
  request_from h k = echo_from p.body (and_parts icmp _ (sym says_type ∙ h)).1 (and_parts icmp _ (sym says_code ∙ k)).1

  pub request_to : IsWholeBody p.body p.tail → carries_ip4 p ≡ true → is_echo_request (body_tuple p.body) ≡ true → (says who s (field_is f.Icmp4Type 8) ≡ true) × (says who s (field_is f.Icmp4Code 0) ≡ true)
  request_to is ip4 h =
      let e = echo_to p.body p.tail is h in
      let whole' = and_from (carries_ip4 p) (field.ip_proto p.body == 1) ip4 (eq-eqb (field.ip_proto p.body) 1 e.icmp) in
      (says_type ∙ and_from icmp _ whole' e.request, says_code ∙ and_from icmp _ whole' e.plain)
