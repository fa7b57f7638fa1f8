-- The terms of a virtual address hold of the packets whose tuples go to it.
use Rattle.std.specs.Prelude.{◌≡◌, ◌≤◌, ◌<◌, ◌^◌, ◌==◌, ◌&&◌, ℕ, Bool, true, false, cond, List, [], ◌∷◌, Option, Some, None}
use Rattle.std.specs.List.{list_all}
use Rattle.std.specs.Option.{option_map}
use Rattle.std.proofs.Common.{refl, sym, ap, ◌∙◌, arith}
use Rattle.std.proofs.Math.Bool.{and-true}
use Rattle.std.proofs.lemmas.Bool.{and_parts, and_from, eqb-true, eq-eqb, false≢true}
use Rattle.std.proofs.lemmas.Option.{none-some, same_Some}
use Rattle.ovn_base.specs.declared.address.Backend.{Backend}
use Rattle.conn_table.specs.Tuples.{tuple_between, ip4_tuple, body_tuple, tuple_of}
use Rattle.conn_table.specs.declared.tuple.Protocol.{Protocol}
use Rattle.conn_table.specs.declared.tuple.Protocol.TheVariants as protocol
use Rattle.conn_table.specs.declared.tuple.Tuple.{Tuple}
use Rattle.inet_packet.specs.Fields as field
use Rattle.inet_packet.specs.Whole.{IsWhole, IsWholeBody, IsPart}
use Rattle.inet_packet.specs.declared.packet.Body.{Body}
use Rattle.inet_packet.specs.declared.packet.Body.TheVariants as body
use Rattle.inet_packet.specs.declared.packet.Ip4Packet.{Ip4Packet}
use Rattle.inet_packet.specs.declared.packet.Packet.{Packet}
use Rattle.inet_packet.specs.declared.packet.Part.{Part}
use Rattle.inet_packet.specs.declared.packet.Part.TheVariants as part
use Rattle.match_language.specs.declared.expr.Expr.TheVariants as e
use Rattle.match_language.specs.declared.expr.Rel.TheVariants as r
use Rattle.match_language.specs.declared.expr.Value.TheVariants as v
use Rattle.match_language.specs.declared.field.Field.TheVariants as f
use Rattle.match_language.specs.declared.field.Predicate.TheVariants as p
use Rattle.match_cubes.proofs.Cases.{meaning_is}
use Rattle.match_cubes.specs.Holds.{has_needs}
use Rattle.match_cubes.specs.Suited.{HasFieldsInRange}
use Rattle.nb_records.specs.Grammar.{IsBackend}
use Rattle.nb_records.specs.declared.balancer.BalancerProtocol.{BalancerProtocol}
use Rattle.nb_records.specs.declared.balancer.BalancerProtocol.TheVariants as balanced
use Rattle.net_model.specs.Balancing.{serves_protocol}
use Rattle.net_model.specs.Headers.{carries_ip4}
use Rattle.net_model.specs.Sights.{Sight, Roster, no_regs, compares, truth_at}
use Rattle.stage_rows.specs.BalancerRows.{to_vip}
use Rattle.stage_rows.specs.Rows.{field_is, ip_is}
use Rattle.row_laws.proofs.terms.PacketTerms.{says_ip_dst}
use Rattle.row_laws.proofs.terms.Terms.{says, says_is, compared, whole, small}

-- the tuple's destination is the address, with its port
pub record IsTo (at : Backend) (t : Tuple) : Type 0 where
  pub ip : t.dst.0 ≡ at.ip.0
  pub port : t.dst_port ≡ at.port

-- ---- packets with a tuple

-- the fields that the terms read, where the tuple is one of TCP or UDP
record HasFields (number : ℕ) (port : Body → ℕ) (b : Body) (t : Tuple) : Type 0 where
  kind : field.ether_type b ≡ 0x800
  proto : field.ip_proto b ≡ number
  dst : field.ip4_dst b ≡ t.dst.0
  dst_port : port b ≡ t.dst_port

no_echo : (x y : Bool) (k : Protocol) (i : Ip4Packet) (n : ℕ) (t : Tuple) → option_map (λ q. tuple_between q n n i) (cond x (Some protocol.EchoRequest) (cond y (Some protocol.EchoReply) None)) ≡ Some t → t.protocol ≡ k
    → (k ≡ protocol.EchoRequest → ⊥) → (k ≡ protocol.EchoReply → ⊥) → ⊥
no_echo true y k i n t h e one two = one (sym e ∙ ap (λ (u : Tuple). u.protocol) (sym (same_Some (tuple_between protocol.EchoRequest n n i) t h)))
no_echo false true k i n t h e one two = two (sym e ∙ ap (λ (u : Tuple). u.protocol) (sym (same_Some (tuple_between protocol.EchoReply n n i) t h)))
no_echo false false k i n t h e one two = none-some t h

no_other : (x : Bool) (k : Protocol) (i : Ip4Packet) (t : Tuple) → cond x None (Some (tuple_between (protocol.Other i.proto) 0 0 i)) ≡ Some t → t.protocol ≡ k → (k ≡ protocol.Other i.proto → ⊥) → ⊥
no_other true k i t h e other = none-some t h
no_other false k i t h e other = other (sym e ∙ ap (λ (u : Tuple). u.protocol) (sym (same_Some (tuple_between (protocol.Other i.proto) 0 0 i) t h)))

tcp_part : (i : Ip4Packet) (len : ℕ) (x : Part) → IsPart i.frag i.proto len x → (t : Tuple) → ip4_tuple i x ≡ Some t → t.protocol ≡ protocol.Tcp → (i.proto ≡ 6) × (i.dst.0 ≡ t.dst.0) × (field.part_tcp_dst x ≡ t.dst_port)
tcp_part i len (part.Tcp src_port dst_port middle sum urgent) is t h e =
    let same = same_Some (tuple_between protocol.Tcp src_port dst_port i) t h in
    (is.1, ap (λ (u : Tuple). u.dst.0) same, ap (λ (u : Tuple). u.dst_port) same)
tcp_part i len (part.Udp src_port dst_port udp_len sum) is t h e = let same = ap (λ (u : Tuple). u.protocol) (same_Some (tuple_between protocol.Udp src_port dst_port i) t h) in let clash : protocol.Udp ≡ protocol.Tcp = same ∙ e in absurd cc
tcp_part i len (part.Icmp kind code sum ident) is t h e = absurd (no_echo (code == 0 && kind == 8) (code == 0 && kind == 0) protocol.Tcp i ident t h e (λ x. cc) (λ x. cc))
tcp_part i len part.OtherIp is t h e = absurd (no_other (i.proto == 1) protocol.Tcp i t h e (λ x. cc))
tcp_part i len part.Fragment is t h e = absurd (none-some t h)

udp_part : (i : Ip4Packet) (len : ℕ) (x : Part) → IsPart i.frag i.proto len x → (t : Tuple) → ip4_tuple i x ≡ Some t → t.protocol ≡ protocol.Udp → (i.proto ≡ 17) × (i.dst.0 ≡ t.dst.0) × (field.part_udp_dst x ≡ t.dst_port)
udp_part i len (part.Udp src_port dst_port udp_len sum) is t h e =
    let same = same_Some (tuple_between protocol.Udp src_port dst_port i) t h in
    (is.1, ap (λ (u : Tuple). u.dst.0) same, ap (λ (u : Tuple). u.dst_port) same)
udp_part i len (part.Tcp src_port dst_port middle sum urgent) is t h e = let same = ap (λ (u : Tuple). u.protocol) (same_Some (tuple_between protocol.Tcp src_port dst_port i) t h) in let clash : protocol.Tcp ≡ protocol.Udp = same ∙ e in absurd cc
udp_part i len (part.Icmp kind code sum ident) is t h e = absurd (no_echo (code == 0 && kind == 8) (code == 0 && kind == 0) protocol.Udp i ident t h e (λ x. cc) (λ x. cc))
udp_part i len part.OtherIp is t h e = absurd (no_other (i.proto == 1) protocol.Udp i t h e (λ x. cc))
udp_part i len part.Fragment is t h e = absurd (none-some t h)

tcp_fields : (b : Body) (tail : List ℕ) → IsWholeBody b tail → (t : Tuple) → body_tuple b ≡ Some t → t.protocol ≡ protocol.Tcp → HasFields 6 field.tcp_dst b t
tcp_fields (body.Ip4 i) tail h t is e = let k = tcp_part i _ i.part h.named t is e in record { kind = refl; proto = k.0; dst = k.1; dst_port = k.2 }
tcp_fields (body.Arp a) tail h t is e = absurd (none-some t is)
tcp_fields (body.Other n) tail h t is e = absurd (none-some t is)

udp_fields : (b : Body) (tail : List ℕ) → IsWholeBody b tail → (t : Tuple) → body_tuple b ≡ Some t → t.protocol ≡ protocol.Udp → HasFields 17 field.udp_dst b t
udp_fields (body.Ip4 i) tail h t is e = let k = udp_part i _ i.part h.named t is e in record { kind = refl; proto = k.0; dst = k.1; dst_port = k.2 }
udp_fields (body.Arp a) tail h t is e = absurd (none-some t is)
udp_fields (body.Other n) tail h t is e = absurd (none-some t is)

-- ---- packets with a port

-- the tuple of a packet that goes to a port, but for port 0
pub record GoesTo (kind : BalancerProtocol) (at : Backend) (o : Option Tuple) : Type 0 where
  pub tuple : Tuple
  pub is : o ≡ Some tuple
  pub serves : serves_protocol kind tuple.protocol ≡ true
  pub to : IsTo at tuple

tcp_to : (i : Ip4Packet) (x : Part) (at : Backend) → field.part_tcp_dst x ≡ at.port → 1 ≤ at.port → i.dst.0 ≡ at.ip.0 → GoesTo balanced.Tcp at (ip4_tuple i x)
tcp_to i (part.Tcp src_port dst_port middle sum urgent) at h some e = record { tuple = tuple_between protocol.Tcp src_port dst_port i; is = refl; serves = refl; to = record { ip = e; port = h } }
tcp_to i (part.Udp src_port dst_port len sum) at h some e = absurd (omega (arith, h, some))
tcp_to i (part.Icmp kind code sum ident) at h some e = absurd (omega (arith, h, some))
tcp_to i part.OtherIp at h some e = absurd (omega (arith, h, some))
tcp_to i part.Fragment at h some e = absurd (omega (arith, h, some))

udp_to : (i : Ip4Packet) (x : Part) (at : Backend) → field.part_udp_dst x ≡ at.port → 1 ≤ at.port → i.dst.0 ≡ at.ip.0 → GoesTo balanced.Udp at (ip4_tuple i x)
udp_to i (part.Udp src_port dst_port len sum) at h some e = record { tuple = tuple_between protocol.Udp src_port dst_port i; is = refl; serves = refl; to = record { ip = e; port = h } }
udp_to i (part.Tcp src_port dst_port middle sum urgent) at h some e = absurd (omega (arith, h, some))
udp_to i (part.Icmp kind code sum ident) at h some e = absurd (omega (arith, h, some))
udp_to i part.OtherIp at h some e = absurd (omega (arith, h, some))
udp_to i part.Fragment at h some e = absurd (omega (arith, h, some))

tcp_goes : (b : Body) (at : Backend) → field.tcp_dst b ≡ at.port → 1 ≤ at.port → field.ip4_dst b ≡ at.ip.0 → GoesTo balanced.Tcp at (body_tuple b)
tcp_goes (body.Ip4 i) at h some e = tcp_to i i.part at h some e
tcp_goes (body.Arp a) at h some e = absurd (omega (arith, h, some))
tcp_goes (body.Other n) at h some e = absurd (omega (arith, h, some))

udp_goes : (b : Body) (at : Backend) → field.udp_dst b ≡ at.port → 1 ≤ at.port → field.ip4_dst b ≡ at.ip.0 → GoesTo balanced.Udp at (body_tuple b)
udp_goes (body.Ip4 i) at h some e = udp_to i i.part at h some e
udp_goes (body.Arp a) at h some e = absurd (omega (arith, h, some))
udp_goes (body.Other n) at h some e = absurd (omega (arith, h, some))

-- ---- terms

tcp_alone : (k : Protocol) → serves_protocol balanced.Tcp k ≡ true → k ≡ protocol.Tcp
tcp_alone protocol.Tcp h = refl
tcp_alone _ h = absurd (false≢true h)

udp_alone : (k : Protocol) → serves_protocol balanced.Udp k ≡ true → k ≡ protocol.Udp
udp_alone protocol.Udp h = refl
udp_alone _ h = absurd (false≢true h)

module _ (who : Roster) (s : Sight) (range : HasFieldsInRange s.packet) (is_whole : IsWhole s.packet) where
  abbrev p' : Packet
  p' = s.packet

  abbrev of_proto : ℕ → Bool
  of_proto n = carries_ip4 p' && (field.ip_proto p'.body == n)

  type_says : compares who s f.EthType r.Eq (v.Number 0x800 0xffff ∷ []) ≡ carries_ip4 p'
  type_says = compared who s f.EthType refl 0x800 0xffff ∙ whole 16 (field.ether_type p'.body) 0x800 (small who s range f.EthType refl 16 refl) (omega arith)

  needs_ip4 : has_needs f.IpProto no_regs p' ≡ carries_ip4 p'
  needs_ip4 = and-true _ ∙ whole 16 (field.ether_type p'.body) 0x800 (small who s range f.EthType refl 16 refl) (omega arith)

  proto_says : (n : ℕ) → n < 2 ^ 8 → compares who s f.IpProto r.Eq (v.Number n 0xff ∷ []) ≡ of_proto n
  proto_says n few = compared who s f.IpProto refl n 0xff ∙ (λ i. needs_ip4 i && whole 8 (field.ip_proto p'.body) n (small who s range f.IpProto refl 8 refl) few i)

  both_ip4 : (n : ℕ) → (carries_ip4 p' && of_proto n) ≡ of_proto n
  both_ip4 n = by (carries_ip4 p')
    where
      by : (b : Bool) → (b && (b && (field.ip_proto p'.body == n))) ≡ (b && (field.ip_proto p'.body == n))
      by true = refl
      by false = refl

  says_tcp : says who s (e.Is p.Tcp) ≡ of_proto 6
  says_tcp = meaning_is (truth_at who s) true p.Tcp ∙ (λ i. type_says i && (and-true (compares who s f.IpProto r.Eq (v.Number 6 0xff ∷ [])) ∙ proto_says 6 (omega arith)) i) ∙ both_ip4 6

  says_udp : says who s (e.Is p.Udp) ≡ of_proto 17
  says_udp = meaning_is (truth_at who s) true p.Udp ∙ (λ i. type_says i && (and-true (compares who s f.IpProto r.Eq (v.Number 17 0xff ∷ [])) ∙ proto_says 17 (omega arith)) i) ∙ both_ip4 17

  says_tcp_dst : (port : ℕ) → port < 2 ^ 16 → says who s (field_is f.TcpDst port) ≡ (of_proto 6 && (field.tcp_dst p'.body == port))
  says_tcp_dst port few = says_is who s range f.TcpDst refl port few ∙ ap (λ b. b && (field.tcp_dst p'.body == port)) (λ i. whole 16 (field.ether_type p'.body) 0x800 (small who s range f.EthType refl 16 refl) (omega arith) i && (and-true _ ∙ whole 8 (field.ip_proto p'.body) 6 (small who s range f.IpProto refl 8 refl) (omega arith)) i)

  says_udp_dst : (port : ℕ) → port < 2 ^ 16 → says who s (field_is f.UdpDst port) ≡ (of_proto 17 && (field.udp_dst p'.body == port))
  says_udp_dst port few = says_is who s range f.UdpDst refl port few ∙ ap (λ b. b && (field.udp_dst p'.body == port)) (λ i. whole 16 (field.ether_type p'.body) 0x800 (small who s range f.EthType refl 16 refl) (omega arith) i && (and-true _ ∙ whole 8 (field.ip_proto p'.body) 17 (small who s range f.IpProto refl 8 refl) (omega arith)) i)

  -- terms that hold tell the tuple
  pub vip_from : (kind : BalancerProtocol) (at : Backend) → IsBackend at → list_all (says who s) (to_vip kind at) ≡ true → GoesTo kind at (tuple_of p')
  vip_from balanced.Tcp at ok h =
      let one = and_parts (says who s (e.Is p.Tcp)) _ h in
      let two = and_parts (says who s (ip_is f.Ip4Dst at.ip)) _ one.1 in
      let dst = and_parts (carries_ip4 p') _ (sym (says_ip_dst who s range at.ip ok.ip) ∙ two.0) in
      let port = and_parts (of_proto 6) _ (sym (says_tcp_dst at.port ok.few) ∙ (and_parts (says who s (field_is f.TcpDst at.port)) true two.1).0) in
      tcp_goes p'.body at (eqb-true (field.tcp_dst p'.body) at.port port.1) ok.some (eqb-true (field.ip4_dst p'.body) at.ip.0 dst.1)
  vip_from balanced.Udp at ok h =
      let one = and_parts (says who s (e.Is p.Udp)) _ h in
      let two = and_parts (says who s (ip_is f.Ip4Dst at.ip)) _ one.1 in
      let dst = and_parts (carries_ip4 p') _ (sym (says_ip_dst who s range at.ip ok.ip) ∙ two.0) in
      let port = and_parts (of_proto 17) _ (sym (says_udp_dst at.port ok.few) ∙ (and_parts (says who s (field_is f.UdpDst at.port)) true two.1).0) in
      udp_goes p'.body at (eqb-true (field.udp_dst p'.body) at.port port.1) ok.some (eqb-true (field.ip4_dst p'.body) at.ip.0 dst.1)

  -- and the other way round
  pub vip_to : (kind : BalancerProtocol) (at : Backend) → IsBackend at → (t : Tuple) → tuple_of p' ≡ Some t → serves_protocol kind t.protocol ≡ true → IsTo at t → list_all (says who s) (to_vip kind at) ≡ true
  vip_to balanced.Tcp at ok t is serves to =
      let h = tcp_fields p'.body p'.tail is_whole.body t is (tcp_alone t.protocol serves) in
      let ip4 : carries_ip4 p' ≡ true = eq-eqb (field.ether_type p'.body) 0x800 h.kind in
      let proto : of_proto 6 ≡ true = and_from (carries_ip4 p') _ ip4 (eq-eqb (field.ip_proto p'.body) 6 h.proto) in
      let dst = says_ip_dst who s range at.ip ok.ip ∙ and_from (carries_ip4 p') _ ip4 (eq-eqb (field.ip4_dst p'.body) at.ip.0 (h.dst ∙ to.ip)) in
      let port = says_tcp_dst at.port ok.few ∙ and_from (of_proto 6) _ proto (eq-eqb (field.tcp_dst p'.body) at.port (h.dst_port ∙ to.port)) in
      λ i. (says_tcp ∙ proto) i && (dst i && (port i && true))
  vip_to balanced.Udp at ok t is serves to =
      let h = udp_fields p'.body p'.tail is_whole.body t is (udp_alone t.protocol serves) in
      let ip4 : carries_ip4 p' ≡ true = eq-eqb (field.ether_type p'.body) 0x800 h.kind in
      let proto : of_proto 17 ≡ true = and_from (carries_ip4 p') _ ip4 (eq-eqb (field.ip_proto p'.body) 17 h.proto) in
      let dst = says_ip_dst who s range at.ip ok.ip ∙ and_from (carries_ip4 p') _ ip4 (eq-eqb (field.ip4_dst p'.body) at.ip.0 (h.dst ∙ to.ip)) in
      let port = says_udp_dst at.port ok.few ∙ and_from (of_proto 17) _ proto (eq-eqb (field.udp_dst p'.body) at.port (h.dst_port ∙ to.port)) in
      λ i. (says_udp ∙ proto) i && (dst i && (port i && true))
