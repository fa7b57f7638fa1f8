-- What the actions of a router make of packets is what the network says.
use Rattle.std.specs.Prelude.{◌≡◌, ◌==◌, ◌&&◌, ◌*◌, ◌+◌, ℕ, Bool, true, false, cond, if◌then◌else◌, refl}
use Rattle.std.proofs.Common.{sym, ap, ◌∙◌, arith}
use Rattle.std.proofs.lemmas.Bool.{false≢true, and_parts, and_from, eqb-true, eq-eqb}
use Rattle.conn_table.specs.Tuples.{tuple_of, body_tuple, ip4_tuple}
use Rattle.inet_packet.specs.Fields as field
use Rattle.inet_packet.specs.Rewrites.{not_word, over_ip4, with_ip4, ip4_with_ttl, ip4_dec_ttl, ip4_as_reply}
use Rattle.inet_packet.specs.Sums.{add_words}
use Rattle.inet_packet.specs.declared.packet.Body.{Body}
use Rattle.inet_packet.specs.declared.packet.Body.TheVariants as body
use Rattle.inet_packet.specs.declared.packet.Ip4Packet.{Ip4Packet}
use Rattle.inet_packet.specs.declared.packet.Packet.{Packet}
use Rattle.inet_packet.specs.declared.packet.Part.{Part}
use Rattle.inet_packet.specs.declared.packet.Part.TheVariants as part
use Rattle.net_model.specs.Headers.{carries_ip4, ip_of, dst_of}
use Rattle.net_model.specs.RouterInput.{is_echo_request}
use Rattle.row_laws.proofs.routers.InputTerms.{icmp_to, other_to}
use Rattle.switch_engine.specs.Headers.{echo_answered, ttl_spent}

-- ---- the time to live

-- the same time leaves the header
same_ttl : (i : Ip4Packet) → ip4_with_ttl i.ttl i ≡ i
same_ttl i =
    let word : ℕ = i.ttl * 256 + i.proto in
    ap (λ (b : Bool). record i { ttl = i.ttl; sum = if b then i.sum else not_word (add_words (add_words (not_word i.sum) (not_word word)) word) }) (eq-eqb word word refl)

-- where none is left, nothing is taken
none_left : (i : Ip4Packet) → i.ttl ≡ 0 → ip4_dec_ttl i ≡ i
none_left i h = ap (λ n. ip4_with_ttl n i) (omega (arith, h)) ∙ same_ttl i

pub spent_is : (p : Packet) → ttl_spent p ≡ with_ip4 ip4_dec_ttl p
spent_is p = by p.body
  where
    one_less : Ip4Packet → Packet
    one_less i = record p { body = body.Ip4 (ip4_dec_ttl i) }

    tested : (i : Ip4Packet) (b : Bool) → (i.ttl == 0) ≡ b → cond b (record p { body = body.Ip4 i }) (one_less i) ≡ one_less i
    tested i true h = ap (λ (j : Ip4Packet). record p { body = body.Ip4 j }) (sym (none_left i (eqb-true i.ttl 0 h)))
    tested i false h = refl

    by : (b : Body) → cond (field.ip_ttl b == 0) (record p { body = b }) (record p { body = over_ip4 ip4_dec_ttl b }) ≡ record p { body = over_ip4 ip4_dec_ttl b }
    by (body.Ip4 i) = tested i (i.ttl == 0) refl
    by (body.Arp a) = refl
    by (body.Other t) = refl

-- ---- echo requests

part_request : (i : Ip4Packet) (x : Part) → is_echo_request (ip4_tuple i x) ≡ true → (field.part_icmp4_type x == 8 && field.part_icmp4_code x == 0) ≡ true
part_request i (part.Icmp kind code sum ident) h =
    let two = and_parts (code == 0) (kind == 8) (icmp_to i kind code ident (code == 0 && kind == 8) (code == 0 && kind == 0) refl h) in
    and_from (kind == 8) (code == 0) two.1 two.0
part_request i (part.Tcp src_port dst_port middle sum urgent) h = absurd (false≢true h)
part_request i (part.Udp src_port dst_port len sum) h = absurd (false≢true h)
part_request i part.OtherIp h = absurd (other_to i (i.proto == 1) h)
part_request i part.Fragment h = absurd (false≢true h)

body_request : (b : Body) → is_echo_request (body_tuple b) ≡ true → (field.icmp4_type b == 8 && field.icmp4_code b == 0) ≡ true
body_request (body.Ip4 i) h = part_request i i.part h
body_request (body.Arp a) h = absurd (false≢true h)
body_request (body.Other t) h = absurd (false≢true h)

pub echoed_is : (p : Packet) → is_echo_request (tuple_of p) ≡ true → echo_answered p ≡ with_ip4 ip4_as_reply p
echoed_is p h = ap (λ (b : Bool). cond b (with_ip4 ip4_as_reply p) p) (body_request p.body h)

-- ---- what stays

-- another IPv4 header is one still
type_stays : (f : Ip4Packet → Ip4Packet) (b : Body) → field.ether_type (over_ip4 f b) ≡ field.ether_type b
type_stays f (body.Ip4 i) = refl
type_stays f (body.Arp a) = refl
type_stays f (body.Other t) = refl

pub ip4_stays : (f : Ip4Packet → Ip4Packet) (p : Packet) → carries_ip4 p ≡ true → carries_ip4 (with_ip4 f p) ≡ true
ip4_stays f p h = ap (λ (n : ℕ). n == 0x0800) (type_stays f p.body) ∙ h

-- a hop less to live leaves the destination
dst_by : (b : Body) → field.ip4_dst (over_ip4 ip4_dec_ttl b) ≡ field.ip4_dst b
dst_by (body.Ip4 i) = refl
dst_by (body.Arp a) = refl
dst_by (body.Other t) = refl

pub dst_stays : (p : Packet) → dst_of (with_ip4 ip4_dec_ttl p) ≡ dst_of p
dst_stays p = ap ip_of (dst_by p.body)
