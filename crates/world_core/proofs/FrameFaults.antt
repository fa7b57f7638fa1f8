-- The tests of a frame's bytes answer for what they stand for.
use Rattle.std.specs.Prelude.{◌&&◌, ◌==◌, not, slice_index, nat_le, true, false}
use Rattle.std.specs.Int.{to_be_bytes}
use Rattle.std.specs.Cmp.Lexicographic.{pointwise, bytes_decides}
use Rattle.std.proofs.Common.{◌≡◌, ◌+◌, ◌*◌, ◌^◌, ◌/◌, ◌%◌, ◌<◌, ◌≤◌, ℕ, suc, List, ◌∷◌, ◌++◌, ◌↔◌, length, take, drop, ap, sym, subst, ◌∙◌, arith}
use Rattle.std.proofs.Math.Dec.{eqb as nat_eq}
use Rattle.std.proofs.lemmas.Bool.{and_from, and_parts, both_ways, eq-eqb, eqb-true, false_from_ne_true, le-leb, leb-true, ltb-false, ltb-true, not-true, not_from_false}
use Rattle.ovn_base.specs.declared.limits.TheConstants.{MIN_FRAME, MAX_FRAME}
use mir.Syntax.{w64}
use Rattle.ovn_base.specs.addresses.EtherAddress.{EtherAddress, mac_bytes}
use Rattle.inet_packet.specs.Frame.{body_bytes, ethernet_ip4, frame_of, ip4_header, part_bytes, two}
use Rattle.inet_packet.specs.Reading.{HasBody, IsBadIp4, IsIp4Bytes, ether_type_at, header_len, total_len}
use Rattle.inet_packet.specs.Sums.{words, ones_sum}
use Rattle.inet_packet.specs.Whole.{IsArpBytes, IsWhole, IsWholeBody}
use Rattle.inet_packet.specs.declared.packet.Body.{Body}
use Rattle.inet_packet.specs.declared.packet.Body.TheVariants.{Arp, Ip4, Other}
use Rattle.inet_packet.specs.declared.packet.Packet.{Packet}
use Rattle.inet_packet.proofs.DecodeLaws.{IsBytes, IsHead, is_bad, not_bad, type_at}
use Rattle.inet_packet.proofs.Ip4.{whole_is_ip4}
use Rattle.world_core.specs.FrameReading.{IsGood, IsOfLength, IsOfPacket}
use Rattle.world_setup.specs.Frames.{is_arp_bytes, is_bad_ip4, is_ip4_bytes, is_too_big, is_too_short}
use Rattle.world_core.proofs.HeaderParts.{AtLeast, HasNumber, ip4_body, one, one_of, two_of}

-- ---- the bytes behind the type

-- the tests of an IPv4 header, one after another
pub ip4_tests : (bytes : List ℕ) → (is_ip4_bytes bytes ≡ true) ↔ IsIp4Bytes bytes
unfolding is_ip4_bytes
ip4_tests bytes =
    let long = nat_le 20 (length bytes) in
    let version = slice_index bytes 0 / 16 == 4 in
    let header = nat_le 20 (header_len bytes) in
    let total = nat_le (header_len bytes) (total_len bytes) in
    let there = nat_le (total_len bytes) (length bytes) in
    let sum = ones_sum (words (take (header_len bytes) bytes)) == 0xffff in (
      λ yes.
          let a = and_parts (long && version && header && total && there) sum yes in
          let b = and_parts (long && version && header && total) there a.0 in
          let c = and_parts (long && version && header) total b.0 in
          let d = and_parts (long && version) header c.0 in
          let e = and_parts long version d.0 in
          record {
            long = leb-true 20 (length bytes) e.0;
            version = eqb-true (slice_index bytes 0 / 16) 4 e.1;
            has_header = leb-true 20 (header_len bytes) d.1;
            has_total = leb-true (header_len bytes) (total_len bytes) c.1;
            is_there = leb-true (total_len bytes) (length bytes) b.1;
            sums_up = eqb-true (ones_sum (words (take (header_len bytes) bytes))) 0xffff a.1;
          },
      λ h.
          and_from (long && version && header && total && there) sum
          (and_from (long && version && header && total) there
          (and_from (long && version && header) total
          (and_from (long && version) header
          (and_from long version (le-leb 20 (length bytes) h.long) (eq-eqb (slice_index bytes 0 / 16) 4 h.version))
          (le-leb 20 (header_len bytes) h.has_header))
          (le-leb (header_len bytes) (total_len bytes) h.has_total))
          (le-leb (total_len bytes) (length bytes) h.is_there))
          (eq-eqb (ones_sum (words (take (header_len bytes) bytes))) 0xffff h.sums_up),
    )

-- the tests of an ARP packet
pub arp_tests : (bytes : List ℕ) → (is_arp_bytes bytes ≡ true) ↔ IsArpBytes bytes
unfolding is_arp_bytes
arp_tests bytes =
    let long = nat_le 28 (length bytes) in
    let kind = pointwise nat_eq (take 6 bytes) ethernet_ip4 in
    let same = bytes_decides (take 6 bytes) ethernet_ip4 in (
      λ yes. let both = and_parts long kind yes in record { long = leb-true 28 (length bytes) both.0; kind = same.0 both.1 },
      λ h. and_from long kind (le-leb 28 (length bytes) h.long) (same.1 h.kind),
    )

-- ---- the head of a frame

-- an address in six bytes, the first the highest
abbrev six : ℕ → List ℕ
six n = drop 2 (to_be_bytes w64 n)

-- six bytes are those of their number
six_from : (a b c d e f : ℕ) (rest : List ℕ) → a < 256 → b < 256 → c < 256 → d < 256 → e < 256 → f < 256
    → a ∷ b ∷ c ∷ d ∷ e ∷ f ∷ rest ≡ six (a * 1099511627776 + b * 4294967296 + c * 16777216 + d * 65536 + e * 256 + f) ++ rest
six_from a b c d e f rest p q r s t u =
    let n = a * 1099511627776 + b * 4294967296 + c * 16777216 + d * 65536 + e * 256 + f in
    let first : a ≡ n / 1099511627776 % 256 = omega (arith, p, q, r, s, t, u) in
    let second : b ≡ n / 4294967296 % 256 = omega (arith, p, q, r, s, t, u) in
    let third : c ≡ n / 16777216 % 256 = omega (arith, p, q, r, s, t, u) in
    let fourth : d ≡ n / 65536 % 256 = omega (arith, p, q, r, s, t, u) in
    let fifth : e ≡ n / 256 % 256 = omega (arith, p, q, r, s, t, u) in
    let last : f ≡ n % 256 = omega (arith, p, q, r, s, t, u) in
    λ i. first i ∷ second i ∷ third i ∷ fourth i ∷ fifth i ∷ last i ∷ rest

-- six bytes, one after another
module _ (more : ℕ) (bytes : List ℕ) (first : HasNumber one 256 (suc (suc (suc (suc (suc more))))) bytes) (second : HasNumber one 256 (suc (suc (suc (suc more)))) first.rest.bytes)
    (third : HasNumber one 256 (suc (suc (suc more))) second.rest.bytes) (fourth : HasNumber one 256 (suc (suc more)) third.rest.bytes)
    (fifth : HasNumber one 256 (suc more) fourth.rest.bytes) (last : HasNumber one 256 more fifth.rest.bytes) where
  six_with : HasNumber six (2 ^ 48) more bytes
  six_with = record {
    value = first.value * 1099511627776 + second.value * 4294967296 + third.value * 16777216 + fourth.value * 65536 + fifth.value * 256 + last.value;
    within = omega (arith, first.within, second.within, third.within, fourth.within, fifth.within, last.within);
    rest = last.rest;
    parts =
        first.parts ∙ ap (λ (l : List ℕ). first.value ∷ l) (
        second.parts ∙ ap (λ (l : List ℕ). second.value ∷ l) (
        third.parts ∙ ap (λ (l : List ℕ). third.value ∷ l) (
        fourth.parts ∙ ap (λ (l : List ℕ). fourth.value ∷ l) (
        fifth.parts ∙ ap (λ (l : List ℕ). fifth.value ∷ l) last.parts))))
        ∙ six_from first.value second.value third.value fourth.value fifth.value last.value last.rest.bytes first.within second.within third.within fourth.within fifth.within last.within;
  }

six_of : (more : ℕ) (b : AtLeast (suc (suc (suc (suc (suc (suc more))))))) → HasNumber six (2 ^ 48) more b.bytes
six_of more b =
    let first = one_of (suc (suc (suc (suc (suc more))))) b in
    let second = one_of (suc (suc (suc (suc more)))) first.rest in
    let third = one_of (suc (suc (suc more))) second.rest in
    let fourth = one_of (suc (suc more)) third.rest in
    let fifth = one_of (suc more) fourth.rest in
    six_with more b.bytes first second third fourth fifth (one_of more fifth.rest)

-- two addresses, a type and the bytes behind it
record HasHead (frame : List ℕ) : Type 0 where
  pub dst : EtherAddress
  pub src : EtherAddress
  pub ether_type : ℕ
  pub rest : List ℕ
  pub fits : IsBytes rest
  pub is_head : IsHead frame dst src ether_type rest

head_from : (frame : List ℕ) → IsBytes frame → 14 ≤ length frame → HasHead frame
head_from frame fits long = by (six_of 8 (record { bytes = frame; fits = fits; long = long }))
  where
    with_all : (dst : HasNumber six (2 ^ 48) 8 frame) (src : HasNumber six (2 ^ 48) 2 dst.rest.bytes) → HasNumber two (2 ^ 16) 0 src.rest.bytes → HasHead frame
    with_all dst src kind = record {
      dst = record { number = dst.value; below = dst.within };
      src = record { number = src.value; below = src.within };
      ether_type = kind.value;
      rest = kind.rest.bytes;
      fits = kind.rest.fits;
      is_head = record {
        parts = dst.parts ∙ ap (λ (l : List ℕ). six dst.value ++ l) (src.parts ∙ ap (λ (l : List ℕ). six src.value ++ l) kind.parts);
        within = kind.within;
        fits = fits;
      };
    }

    by : HasNumber six (2 ^ 48) 8 frame → HasHead frame
    by dst = let src = six_of 2 dst.rest in with_all dst src (two_of 0 src.rest)

-- ---- faults

-- bytes that pass the tests are those of a whole packet, and no others are
pub bad_ip4_tests : (frame : List ℕ) → IsBytes frame → is_too_short frame ≡ false → is_too_big frame ≡ false → (is_bad_ip4 frame ≡ true) ↔ IsBadIp4 frame
bad_ip4_tests frame fits long short = by (head_from frame fits (ltb-false (length frame) 14 long))
  where
    by : HasHead frame → (is_bad_ip4 frame ≡ true) ↔ IsBadIp4 frame
    by h =
        let least : 14 ≤ length frame = ltb-false (length frame) 14 long in
        let most : length frame ≤ 9216 = ltb-false 9216 (length frame) short in
        let kind : ether_type_at frame ≡ h.ether_type = type_at frame h.dst h.src h.ether_type h.rest h.is_head in
        let behind : drop 14 frame ≡ h.rest = ap (drop 14) h.is_head.parts in
        let test = is_ip4_bytes (drop 14 frame) in (
          λ yes.
              let both = and_parts (ether_type_at frame == 0x0800) (not test) yes in
              let ip4 : h.ether_type ≡ 0x0800 = sym kind ∙ eqb-true (ether_type_at frame) 0x0800 both.0 in
              is_bad frame h.dst h.src h.ether_type h.rest least most h.is_head
              (ip4, λ right. both_ways test (not-true test both.1) ((ip4_tests (drop 14 frame)).1 (subst IsIp4Bytes (sym behind) right))),
          λ bad.
              let ip4 : h.ether_type ≡ 0x0800 = sym kind ∙ bad.ip4 in
              and_from (ether_type_at frame == 0x0800) (not test) (eq-eqb (ether_type_at frame) 0x0800 bad.ip4)
              (not_from_false test (false_from_ne_true test (λ yes.
              not_bad frame h.dst h.src h.ether_type h.rest least most h.is_head
              (subst (λ (n : ℕ). HasBody n h.rest) (sym ip4) (ip4_body h.rest h.fits (subst IsIp4Bytes behind ((ip4_tests (drop 14 frame)).0 yes)))) bad))),
        )

-- the length of a frame, by its tests
pub of_length : (frame : List ℕ) → ¬ (length frame < MIN_FRAME) → ¬ (MAX_FRAME < length frame) → IsOfLength frame
of_length frame long short = record {
  long = false_from_ne_true (is_too_short frame) (λ yes. long (ltb-true (length frame) MIN_FRAME yes));
  short = false_from_ne_true (is_too_big frame) (λ yes. short (ltb-true MAX_FRAME (length frame) yes));
}

-- a whole packet has a good frame
body_is_good : (dst src : EtherAddress) (body : Body) (tail frame : List ℕ) → IsWholeBody body tail → mac_bytes dst ++ (mac_bytes src ++ (body_bytes body ++ tail)) ≡ frame
    → ¬ ((ether_type_at frame ≡ 0x0800) × (is_ip4_bytes (drop 14 frame) ≡ false))
body_is_good dst src (Arp a) tail frame h e bad =
    let low : 6 ≡ slice_index frame 13 = ap (λ (l : List ℕ). slice_index l 13) e in
    omega (arith, low, bad.0)
body_is_good dst src (Ip4 i) tail frame h e bad =
    let behind : (ip4_header i ++ part_bytes i.part) ++ tail ≡ drop 14 frame = ap (drop 14) e in
    both_ways (is_ip4_bytes (drop 14 frame)) bad.1 ((ip4_tests (drop 14 frame)).1 (subst IsIp4Bytes behind (whole_is_ip4 i tail h)))
body_is_good dst src (Other t) tail frame h e bad =
    let high : t / 256 % 256 ≡ slice_index frame 12 = ap (λ (l : List ℕ). slice_index l 12) e in
    let low : t % 256 ≡ slice_index frame 13 = ap (λ (l : List ℕ). slice_index l 13) e in
    h.not_ip4 (omega (arith, high, low, bad.0, h.within))

pub whole_is_good : (p : Packet) (frame : List ℕ) → IsWhole p → frame_of p ≡ frame → IsGood frame
unfolding frame_of
whole_is_good p frame whole is = record {
  of_length = of_length frame (λ few. omega (arith, few, whole.long, ap length is)) (λ many. omega (arith, many, whole.short, ap length is));
  not_bad = false_from_ne_true (is_bad_ip4 frame) (λ yes.
      let both = and_parts (ether_type_at frame == 0x0800) (not (is_ip4_bytes (drop 14 frame))) yes in
      body_is_good p.dst p.src p.body p.tail frame whole.body is (eqb-true (ether_type_at frame) 0x0800 both.0, not-true (is_ip4_bytes (drop 14 frame)) both.1));
}

-- a frame that is bad by what it stands for is so by the tests
pub bad_is_told : (frame : List ℕ) → IsBytes frame → IsBadIp4 frame → IsOfLength frame × (is_bad_ip4 frame ≡ true)
bad_is_told frame fits bad =
    let l = of_length frame (λ few. omega (arith, few, bad.long)) (λ many. omega (arith, many, bad.short)) in
    (l, (bad_ip4_tests frame fits l.long l.short).1 bad)

-- ---- packets

-- the frame of a packet
pub packet_is_told : (p : Packet) (frame : List ℕ) → IsWhole p → frame_of p ≡ frame → IsOfPacket frame p
packet_is_told p frame whole is = record { frame_is = is; whole = whole; good = whole_is_good p frame whole is }
