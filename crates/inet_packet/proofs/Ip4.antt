-- An IPv4 header that is read is the one that the bytes have, and the other way round.
use Rattle.std.proofs.Common.{◌≡◌, ◌+◌, ◌*◌, ◌-◌, ◌^◌, ◌/◌, ◌%◌, ◌<◌, ℕ, List, ◌∷◌, ◌++◌, length, get_or, take, drop, refl, ap, sym, subst, ◌∙◌, append_assoc, arith}
use Rattle.std.proofs.lemmas.List.{take_at, length-append}
use Rattle.inet_packet.specs.declared.frame.Front.{Front}
use Rattle.inet_packet.specs.declared.packet.Ip4Packet.{Ip4Packet}
use Rattle.inet_packet.specs.declared.packet.Part.{Part}
use Rattle.inet_packet.specs.Frame.{ip4_header, part_bytes}
use Rattle.inet_packet.specs.Reading.{IsIp4Bytes, IsFrontWithin, front_bytes, header_len, total_len, ip4_packet_of}
use Rattle.inet_packet.specs.Sums.{words, ones_sum}
use Rattle.inet_packet.specs.Whole.{AreBytes, IsPart, IsPartWithin, IsWholeIp4}

pub length-ip4_header : (i : Ip4Packet) → length (ip4_header i) ≡ 20 + length i.options
unfolding ip4_header
length-ip4_header i = omega arith

-- what was read of right bytes
pub record IsView (bytes : List ℕ) (f : Front) (options : List ℕ) (part : Part) (tail : List ℕ) : Type 0 where
  pub parts : bytes ≡ front_bytes f ++ (options ++ (part_bytes part ++ tail))
  pub len : length options ≡ f.first % 16 * 4 - 20
  pub front : IsFrontWithin f
  pub options_fit : AreBytes options
  pub part_fits : IsPartWithin part
  pub named : IsPart f.frag f.proto (f.total - f.first % 16 * 4) part

first_is : (bytes : List ℕ) (f : Front) (options : List ℕ) (part : Part) (tail : List ℕ) → IsIp4Bytes bytes → IsView bytes f options part tail → f.first ≡ (64 + (5 + length options / 4)) % 256
first_is bytes f options part tail h v =
    let e : get_or bytes 0 0 ≡ f.first = ap (λ (l : List ℕ). get_or l 0 0) v.parts in
    omega (arith, h.version, h.has_header, v.len, e, v.front.first)

total_is : (bytes : List ℕ) (f : Front) (options : List ℕ) (part : Part) (tail : List ℕ) → IsView bytes f options part tail → total_len bytes ≡ f.total
total_is bytes f options part tail v =
    let a : get_or bytes 2 0 ≡ f.total / 256 % 256 = ap (λ (l : List ℕ). get_or l 2 0) v.parts in
    let b : get_or bytes 3 0 ≡ f.total % 256 = ap (λ (l : List ℕ). get_or l 3 0) v.parts in
    omega (arith, a, b, v.front.total)

pub view_parts : (bytes : List ℕ) (f : Front) (options : List ℕ) (part : Part) (tail : List ℕ) → IsIp4Bytes bytes → IsView bytes f options part tail
    → bytes ≡ (ip4_header (ip4_packet_of f options part) ++ part_bytes part) ++ tail
unfolding ip4_header
view_parts bytes f options part tail h v =
    v.parts
    ∙ ap (λ (b : ℕ). b ∷ drop 1 (front_bytes f ++ (options ++ (part_bytes part ++ tail)))) (first_is bytes f options part tail h v)
    ∙ ap (λ (l : List ℕ). ((64 + (5 + length options / 4)) % 256) ∷ drop 1 (front_bytes f ++ l)) (sym (append_assoc options (part_bytes part) tail))

pub view_whole : (bytes : List ℕ) (f : Front) (options : List ℕ) (part : Part) (tail : List ℕ) → IsIp4Bytes bytes → IsView bytes f options part tail
    → IsWholeIp4 (ip4_packet_of f options part) tail
view_whole bytes f options part tail h v =
    let i = ip4_packet_of f options part in
    let parts = view_parts bytes f options part tail h v in
    let parts' : bytes ≡ ip4_header i ++ (part_bytes part ++ tail) = parts ∙ append_assoc (ip4_header i) (part_bytes part) tail in
    let e : get_or bytes 0 0 ≡ f.first = ap (λ (l : List ℕ). get_or l 0 0) v.parts in
    let total = total_is bytes f options part tail v in
    let header : header_len bytes ≡ 20 + length options = omega (arith, h.has_header, v.len, e) in
    let all : length bytes ≡ length (ip4_header i) + (length (part_bytes part) + length tail) = ap length parts' ∙ length-append (ip4_header i) (part_bytes part ++ tail) ∙ ap (λ (n : ℕ). length (ip4_header i) + n) (length-append (part_bytes part) tail) in
    let taken : take (header_len bytes) bytes ≡ ip4_header i = ap (take (header_len bytes)) parts' ∙ take_at (ip4_header i) (part_bytes part ++ tail) (header_len bytes) (length-ip4_header i ∙ sym header) in
    record {
      within = record { tos = v.front.tos; total = v.front.total; ident = v.front.ident; frag = v.front.frag; ttl = v.front.ttl; proto = v.front.proto; sum = v.front.sum; src = v.front.src; dst = v.front.dst; options = v.options_fit; part = v.part_fits };
      words_of_four = omega (arith, v.len, h.has_header, e);
      few_options = omega (arith, v.len, v.front.first);
      has_header = omega (arith, h.has_total, total, header);
      is_there = omega (arith, h.is_there, total, all, length-ip4_header i);
      sums_up = subst (λ (l : List ℕ). ones_sum (words l) ≡ 0xffff) taken h.sums_up;
      named = subst (λ (n : ℕ). IsPart f.frag f.proto (f.total - n) part) (ap (λ (n : ℕ). n % 16 * 4) (sym e) ∙ header) v.named;
    }

at_0 : (i : Ip4Packet) (tail : List ℕ) → get_or ((ip4_header i ++ part_bytes i.part) ++ tail) 0 0 ≡ (64 + (5 + length i.options / 4)) % 256
unfolding ip4_header
at_0 i tail = refl

total_at : (i : Ip4Packet) (tail : List ℕ) → i.total < 2 ^ 16 → total_len ((ip4_header i ++ part_bytes i.part) ++ tail) ≡ i.total
unfolding ip4_header
total_at i tail h = omega arith

-- the header of a whole packet is a right one
pub whole_is_ip4 : (i : Ip4Packet) (tail : List ℕ) → IsWholeIp4 i tail → IsIp4Bytes ((ip4_header i ++ part_bytes i.part) ++ tail)
whole_is_ip4 i tail h =
    let bytes = (ip4_header i ++ part_bytes i.part) ++ tail in
    let first : get_or bytes 0 0 ≡ (64 + (5 + length i.options / 4)) % 256 = at_0 i tail in
    let total : total_len bytes ≡ i.total = total_at i tail h.within.total in
    let header : header_len bytes ≡ 20 + length i.options = omega (arith, first, h.words_of_four, h.few_options) in
    let parts : bytes ≡ ip4_header i ++ (part_bytes i.part ++ tail) = append_assoc (ip4_header i) (part_bytes i.part) tail in
    let all : length bytes ≡ length (ip4_header i) + (length (part_bytes i.part) + length tail) = ap length parts ∙ length-append (ip4_header i) (part_bytes i.part ++ tail) ∙ ap (λ (n : ℕ). length (ip4_header i) + n) (length-append (part_bytes i.part) tail) in
    let taken : take (header_len bytes) bytes ≡ ip4_header i = ap (take (header_len bytes)) parts ∙ take_at (ip4_header i) (part_bytes i.part ++ tail) (header_len bytes) (length-ip4_header i ∙ sym header) in
    record {
      long = omega (arith, all, length-ip4_header i);
      version = omega (arith, first, h.words_of_four, h.few_options);
      has_header = omega (arith, header);
      has_total = omega (arith, header, total, h.has_header);
      is_there = omega (arith, total, all, h.is_there, length-ip4_header i);
      sums_up = subst (λ (l : List ℕ). ones_sum (words l) ≡ 0xffff) (sym taken) h.sums_up;
    }
