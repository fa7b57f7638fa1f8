-- Bytes that begin with a right IPv4 header are those of a whole body and of what follows it.
use Rattle.std.proofs.Common.{◌≡◌, ◌+◌, ◌*◌, ◌-◌, ◌^◌, ◌/◌, ◌%◌, ◌<◌, ◌≤◌, ℕ, suc, List, [], ◌∷◌, ◌++◌, length, get_or, take, drop, refl, ap, sym, subst, ◌∙◌, append_assoc, arith, bit_and}
use Rattle.std.proofs.lemmas.Bool.{cases_eq, cases_lt}
use Rattle.std.proofs.lemmas.List.{get_or_default, get_or-drop, get_or-take, length-drop, length-take, length-take-le, take-append-drop}
use mathlib.Core.Logic.{inl, inr}
use Rattle.inet_packet.specs.declared.packet.Body.TheVariants.{Ip4}
use Rattle.inet_packet.specs.declared.packet.Part.{Part}
use Rattle.inet_packet.specs.declared.packet.Part.TheVariants.{Tcp, Udp, Icmp, OtherIp, Fragment}
use Rattle.inet_packet.specs.Frame.{two, four, part_bytes}
use Rattle.inet_packet.specs.Reading.{HasBody, IsFrontWithin, IsIp4Bytes, front_bytes, ip4_packet_of, total_len}
use Rattle.inet_packet.specs.Whole.{AreBytes, IsFragment, IsPart, IsPartWithin}
use Rattle.inet_packet.proofs.DecodeLaws.{IsBytes}
use Rattle.inet_packet.proofs.Ip4.{IsView, view_parts, view_whole}

-- ---- numbers in front

-- at least so many bytes
pub record AtLeast (count : ℕ) : Type 0 where
  pub bytes : List ℕ
  pub fits : IsBytes bytes
  pub long : count ≤ length bytes

-- a number that stands in front, and the bytes behind it
pub record HasNumber (spell : ℕ → List ℕ) (bound more : ℕ) (bytes : List ℕ) : Type 0 where
  pub value : ℕ
  pub within : value < bound
  pub rest : AtLeast more
  pub parts : bytes ≡ spell value ++ rest.bytes

-- one byte, two, and four
abbrev pub one : ℕ → List ℕ
one n = n ∷ []

pub one_of : (more : ℕ) (b : AtLeast (suc more)) → HasNumber one 256 more b.bytes
one_of more b = by b.bytes b.fits b.long
  where
    by : (bytes : List ℕ) → IsBytes bytes → suc more ≤ length bytes → HasNumber one 256 more bytes
    by [] fits long = absurd (omega (arith, long))
    by (a ∷ rest) fits long = record { value = a; within = fits 0; rest = record { bytes = rest; fits = λ i. fits (suc i); long = omega (arith, long) }; parts = refl }

-- bytes are those of their number
two_from : (a b : ℕ) (rest : List ℕ) → a < 256 → b < 256 → a ∷ b ∷ rest ≡ two (a * 256 + b) ++ rest
two_from a b rest p q =
    let n = a * 256 + b in
    let high : a ≡ n / 256 % 256 = omega (arith, p, q) in
    let low : b ≡ n % 256 = omega (arith, p, q) in
    λ i. high i ∷ low i ∷ rest

four_from : (a b c d : ℕ) (rest : List ℕ) → a < 256 → b < 256 → c < 256 → d < 256 → a ∷ b ∷ c ∷ d ∷ rest ≡ four (a * 16777216 + b * 65536 + c * 256 + d) ++ rest
four_from a b c d rest p q r s =
    let n = a * 16777216 + b * 65536 + c * 256 + d in
    let first : a ≡ n / 16777216 % 256 = omega (arith, p, q, r, s) in
    let second : b ≡ n / 65536 % 256 = omega (arith, p, q, r, s) in
    let third : c ≡ n / 256 % 256 = omega (arith, p, q, r, s) in
    let last : d ≡ n % 256 = omega (arith, p, q, r, s) in
    λ i. first i ∷ second i ∷ third i ∷ last i ∷ rest

pub two_of : (more : ℕ) (b : AtLeast (suc (suc more))) → HasNumber two (2 ^ 16) more b.bytes
two_of more b = by (one_of (suc more) b)
  where
    with_low : (a : HasNumber one 256 (suc more) b.bytes) → HasNumber one 256 more a.rest.bytes → HasNumber two (2 ^ 16) more b.bytes
    with_low a z = record {
      value = a.value * 256 + z.value;
      within = omega (arith, a.within, z.within);
      rest = z.rest;
      parts = a.parts ∙ ap (λ (l : List ℕ). a.value ∷ l) z.parts ∙ two_from a.value z.value z.rest.bytes a.within z.within;
    }

    by : HasNumber one 256 (suc more) b.bytes → HasNumber two (2 ^ 16) more b.bytes
    by a = with_low a (one_of more a.rest)

four_of : (more : ℕ) (b : AtLeast (suc (suc (suc (suc more))))) → HasNumber four (2 ^ 32) more b.bytes
four_of more b = by (one_of (suc (suc (suc more))) b)
  where
    with_all : (first : HasNumber one 256 (suc (suc (suc more))) b.bytes) (second : HasNumber one 256 (suc (suc more)) first.rest.bytes) (third : HasNumber one 256 (suc more) second.rest.bytes)
        → HasNumber one 256 more third.rest.bytes → HasNumber four (2 ^ 32) more b.bytes
    with_all first second third last = record {
      value = first.value * 16777216 + second.value * 65536 + third.value * 256 + last.value;
      within = omega (arith, first.within, second.within, third.within, last.within);
      rest = last.rest;
      parts =
          first.parts ∙ ap (λ (l : List ℕ). first.value ∷ l) (second.parts ∙ ap (λ (l : List ℕ). second.value ∷ l) (third.parts ∙ ap (λ (l : List ℕ). third.value ∷ l) last.parts))
          ∙ four_from first.value second.value third.value last.value last.rest.bytes first.within second.within third.within last.within;
    }

    by : HasNumber one 256 (suc (suc (suc more))) b.bytes → HasNumber four (2 ^ 32) more b.bytes
    by first =
        let second = one_of (suc (suc more)) first.rest in
        let third = one_of (suc more) second.rest in
        with_all first second third (one_of more third.rest)

-- what lies behind some bytes
behind : (count more : ℕ) (b : AtLeast (count + more)) → AtLeast more
behind count more b = record {
  bytes = drop count b.bytes;
  fits = λ i. subst (λ (n : ℕ). n < 256) (sym (get_or-drop count b.bytes i 0)) (b.fits (count + i));
  long = omega (arith, b.long, length-drop count b.bytes);
}

-- and bytes that are taken from the front
taken_fit : (bytes : List ℕ) (count : ℕ) → IsBytes bytes → AreBytes (take count bytes)
taken_fit bytes count fits k d lt =
    let short : k < count = omega (arith, lt, length-take count bytes) in
    let within : k < length bytes = omega (arith, lt, length-take count bytes) in
    let same : get_or (take count bytes) k d ≡ get_or bytes k 0 = get_or-take count bytes k d short ∙ get_or_default bytes k d 0 within in
    subst (λ (n : ℕ). n < 256) (sym same) (fits k)

-- ---- the header

-- the first 20 bytes, and what lies behind them
record HasFront (bytes : List ℕ) : Type 0 where
  pub front : _
  pub within : IsFrontWithin front
  pub rest : AtLeast 0
  pub parts : bytes ≡ front_bytes front ++ rest.bytes

front_from : (bytes : List ℕ) (first : HasNumber one 256 19 bytes) (tos : HasNumber one 256 18 first.rest.bytes) (total : HasNumber two (2 ^ 16) 16 tos.rest.bytes)
    (ident : HasNumber two (2 ^ 16) 14 total.rest.bytes) (frag : HasNumber two (2 ^ 16) 12 ident.rest.bytes) (ttl : HasNumber one 256 11 frag.rest.bytes)
    (proto : HasNumber one 256 10 ttl.rest.bytes) (sum : HasNumber two (2 ^ 16) 8 proto.rest.bytes) (src : HasNumber four (2 ^ 32) 4 sum.rest.bytes)
    → HasNumber four (2 ^ 32) 0 src.rest.bytes → HasFront bytes
front_from bytes first tos total ident frag ttl proto sum src dst = record {
  front = record {
    first = first.value;
    tos = tos.value;
    total = total.value;
    ident = ident.value;
    frag = frag.value;
    ttl = ttl.value;
    proto = proto.value;
    sum = sum.value;
    src = record { 0 = src.value };
    dst = record { 0 = dst.value };
  };
  within = record {
    first = first.within;
    tos = tos.within;
    total = total.within;
    ident = ident.within;
    frag = frag.within;
    ttl = ttl.within;
    proto = proto.within;
    sum = sum.within;
    src = src.within;
    dst = dst.within;
  };
  rest = dst.rest;
  parts =
      first.parts ∙ ap (λ (l : List ℕ). first.value ∷ l) (
      tos.parts ∙ ap (λ (l : List ℕ). tos.value ∷ l) (
      total.parts ∙ ap (λ (l : List ℕ). two total.value ++ l) (
      ident.parts ∙ ap (λ (l : List ℕ). two ident.value ++ l) (
      frag.parts ∙ ap (λ (l : List ℕ). two frag.value ++ l) (
      ttl.parts ∙ ap (λ (l : List ℕ). ttl.value ∷ l) (
      proto.parts ∙ ap (λ (l : List ℕ). proto.value ∷ l) (
      sum.parts ∙ ap (λ (l : List ℕ). two sum.value ++ l) (
      src.parts ∙ ap (λ (l : List ℕ). four src.value ++ l) dst.parts))))))));
}

front_of : (b : AtLeast 20) → HasFront b.bytes
front_of b =
    let first = one_of 19 b in
    let tos = one_of 18 first.rest in
    let total = two_of 16 tos.rest in
    let ident = two_of 14 total.rest in
    let frag = two_of 12 ident.rest in
    let ttl = one_of 11 frag.rest in
    let proto = one_of 10 ttl.rest in
    let sum = two_of 8 proto.rest in
    let src = four_of 4 sum.rest in
    front_from b.bytes first tos total ident frag ttl proto sum src (four_of 0 src.rest)

-- ---- the part behind it

-- the part that the header names stands in front
record HasPart (frag proto len : ℕ) (bytes : List ℕ) : Type 0 where
  pub part : Part
  pub rest : List ℕ
  pub parts : bytes ≡ part_bytes part ++ rest
  pub within : IsPartWithin part
  pub named : IsPart frag proto len part

tcp_of : (frag proto len : ℕ) (b : AtLeast 20) → ¬ IsFragment frag → proto ≡ 6 → 20 ≤ len → HasPart frag proto len b.bytes
unfolding behind
tcp_of frag proto len b alone tcp long =
    let src = two_of 18 b in
    let dst = two_of 16 src.rest in
    let sum = two_of 2 (behind 12 4 dst.rest) in
    with_all src dst sum (two_of 0 sum.rest)
  where
    with_all : (src : HasNumber two (2 ^ 16) 18 b.bytes) (dst : HasNumber two (2 ^ 16) 16 src.rest.bytes) (sum : HasNumber two (2 ^ 16) 2 (drop 12 dst.rest.bytes))
        → HasNumber two (2 ^ 16) 0 sum.rest.bytes → HasPart frag proto len b.bytes
    with_all src dst sum urgent =
        let middle = take 12 dst.rest.bytes in
        let last : drop 12 dst.rest.bytes ≡ (two sum.value ++ two urgent.value) ++ urgent.rest.bytes = sum.parts ∙ ap (λ (l : List ℕ). two sum.value ++ l) urgent.parts in
        let split : dst.rest.bytes ≡ (middle ++ (two sum.value ++ two urgent.value)) ++ urgent.rest.bytes =
        sym (take-append-drop 12 dst.rest.bytes) ∙ ap (λ (l : List ℕ). middle ++ l) last ∙ sym (append_assoc middle (two sum.value ++ two urgent.value) urgent.rest.bytes) in
        record {
          part = Tcp src.value dst.value middle sum.value urgent.value;
          rest = urgent.rest.bytes;
          parts = src.parts ∙ ap (λ (l : List ℕ). two src.value ++ l) (dst.parts ∙ ap (λ (l : List ℕ). two dst.value ++ l) split);
          within = (src.within, dst.within, length-take-le 12 dst.rest.bytes (omega (arith, dst.rest.long)), taken_fit dst.rest.bytes 12 dst.rest.fits, sum.within, urgent.within);
          named = (alone, tcp, long);
        }

udp_of : (frag proto len : ℕ) (b : AtLeast 8) → ¬ IsFragment frag → proto ≡ 17 → 8 ≤ len → HasPart frag proto len b.bytes
udp_of frag proto len b alone udp long =
    let src = two_of 6 b in
    let dst = two_of 4 src.rest in
    let size = two_of 2 dst.rest in
    with_all src dst size (two_of 0 size.rest)
  where
    with_all : (src : HasNumber two (2 ^ 16) 6 b.bytes) (dst : HasNumber two (2 ^ 16) 4 src.rest.bytes) (size : HasNumber two (2 ^ 16) 2 dst.rest.bytes)
        → HasNumber two (2 ^ 16) 0 size.rest.bytes → HasPart frag proto len b.bytes
    with_all src dst size sum = record {
      part = Udp src.value dst.value size.value sum.value;
      rest = sum.rest.bytes;
      parts =
          src.parts ∙ ap (λ (l : List ℕ). two src.value ++ l) (
          dst.parts ∙ ap (λ (l : List ℕ). two dst.value ++ l) (
          size.parts ∙ ap (λ (l : List ℕ). two size.value ++ l) sum.parts));
      within = (src.within, dst.within, size.within, sum.within);
      named = (alone, udp, long);
    }

icmp_of : (frag proto len : ℕ) (b : AtLeast 8) → ¬ IsFragment frag → proto ≡ 1 → 8 ≤ len → HasPart frag proto len b.bytes
icmp_of frag proto len b alone icmp long =
    let kind = one_of 7 b in
    let code = one_of 6 kind.rest in
    let sum = two_of 4 code.rest in
    with_all kind code sum (two_of 2 sum.rest)
  where
    with_all : (kind : HasNumber one 256 7 b.bytes) (code : HasNumber one 256 6 kind.rest.bytes) (sum : HasNumber two (2 ^ 16) 4 code.rest.bytes)
        → HasNumber two (2 ^ 16) 2 sum.rest.bytes → HasPart frag proto len b.bytes
    with_all kind code sum ident = record {
      part = Icmp kind.value code.value sum.value ident.value;
      rest = ident.rest.bytes;
      parts =
          kind.parts ∙ ap (λ (l : List ℕ). kind.value ∷ l) (
          code.parts ∙ ap (λ (l : List ℕ). code.value ∷ l) (
          sum.parts ∙ ap (λ (l : List ℕ). two sum.value ++ l) ident.parts));
      within = (kind.within, code.within, sum.within, ident.within);
      named = (alone, icmp, long);
    }

other_of : (frag proto len : ℕ) (bytes : List ℕ) → ¬ IsFragment frag → (proto ≡ 6 → len < 20) → (proto ≡ 17 → len < 8) → (proto ≡ 1 → len < 8) → HasPart frag proto len bytes
other_of frag proto len bytes alone tcp udp icmp = record { part = OtherIp; rest = bytes; parts = refl; within = tt; named = (alone, tcp, udp, icmp) }

-- the part that the protocol names
part_alone : (frag proto len : ℕ) (b : AtLeast len) → ¬ IsFragment frag → HasPart frag proto len b.bytes
part_alone frag proto len b alone = elim (cases_eq proto 6) [
  | inl tcp ↦ elim (cases_lt len 20) [
    | inl cut ↦ other_of frag proto len b.bytes alone (λ e. cut) (λ e. absurd (omega (arith, tcp, e))) (λ e. absurd (omega (arith, tcp, e)))
    | inr long ↦ tcp_of frag proto len (first_of 20 long) alone tcp long
  ]
  | inr not_tcp ↦ elim (cases_eq proto 17) [
    | inl udp ↦ elim (cases_lt len 8) [
      | inl cut ↦ other_of frag proto len b.bytes alone (λ e. absurd (not_tcp e)) (λ e. cut) (λ e. cut)
      | inr long ↦ udp_of frag proto len (first_of 8 long) alone udp long
    ]
    | inr not_udp ↦ elim (cases_eq proto 1) [
      | inl icmp ↦ elim (cases_lt len 8) [
        | inl cut ↦ other_of frag proto len b.bytes alone (λ e. absurd (not_tcp e)) (λ e. cut) (λ e. cut)
        | inr long ↦ icmp_of frag proto len (first_of 8 long) alone icmp long
      ]
      | inr not_icmp ↦ other_of frag proto len b.bytes alone (λ e. absurd (not_tcp e)) (λ e. absurd (not_udp e)) (λ e. absurd (not_icmp e))
    ]
  ]
]
  where
    first_of : (count : ℕ) → count ≤ len → AtLeast count
    first_of count fewer = record { bytes = b.bytes; fits = b.fits; long = omega (arith, fewer, b.long) }

-- the part that the header names
part_of : (frag proto len : ℕ) (b : AtLeast len) → HasPart frag proto len b.bytes
part_of frag proto len b = elim (cases_eq (bit_and frag 0x3fff) 0) [
  | inl none ↦ part_alone frag proto len b (λ some. some none)
  | inr some ↦ record { part = Fragment; rest = b.bytes; parts = refl; within = tt; named = some }
]

-- ---- the body

-- the lengths that the header gives
record HasLengths (bytes : List ℕ) (f : HasFront bytes) : Type 0 where
  pub header : 20 ≤ f.front.first % 16 * 4
  pub total : f.front.first % 16 * 4 ≤ f.front.total
  pub there : f.front.total - 20 ≤ length f.rest.bytes

lengths_of : (bytes : List ℕ) (f : HasFront bytes) → IsIp4Bytes bytes → HasLengths bytes f
lengths_of bytes f h =
    let first : get_or bytes 0 0 ≡ f.front.first = ap (λ (l : List ℕ). get_or l 0 0) f.parts in
    let high : get_or bytes 2 0 ≡ f.front.total / 256 % 256 = ap (λ (l : List ℕ). get_or l 2 0) f.parts in
    let low : get_or bytes 3 0 ≡ f.front.total % 256 = ap (λ (l : List ℕ). get_or l 3 0) f.parts in
    let all : length bytes ≡ 20 + length f.rest.bytes = omega (arith, ap length f.parts) in
    let total : total_len bytes ≡ f.front.total = omega (arith, high, low, f.within.total) in
    record { header = omega (arith, first, h.has_header); total = omega (arith, first, total, h.has_total); there = omega (arith, total, all, h.is_there) }

-- the body of what the front and the part say
with_part : (bytes : List ℕ) → IsIp4Bytes bytes → (f : HasFront bytes) → HasLengths bytes f
    → HasPart f.front.frag f.front.proto (f.front.total - f.front.first % 16 * 4) (drop (f.front.first % 16 * 4 - 20) f.rest.bytes) → HasBody 0x0800 bytes
with_part bytes h f l part =
    let count = f.front.first % 16 * 4 - 20 in
    let options = take count f.rest.bytes in
    let view : IsView bytes f.front options part.part part.rest = record {
      parts = f.parts ∙ ap (λ (l : List ℕ). front_bytes f.front ++ l) (sym (take-append-drop count f.rest.bytes) ∙ ap (λ (l : List ℕ). options ++ l) part.parts);
      len = length-take-le count f.rest.bytes (omega (arith, l.header, l.total, l.there));
      front = f.within;
      options_fit = taken_fit f.rest.bytes count f.rest.fits;
      part_fits = part.within;
      named = part.named;
    } in
    record {
      body = Ip4 (ip4_packet_of f.front options part.part);
      tail = part.rest;
      is_body = record {
        parts = ap (λ (l : List ℕ). 8 ∷ 0 ∷ l) (view_parts bytes f.front options part.part part.rest h view);
        whole = view_whole bytes f.front options part.part part.rest h view;
      };
    }

-- the body of bytes that begin with a right header
pub ip4_body : (bytes : List ℕ) → IsBytes bytes → IsIp4Bytes bytes → HasBody 0x0800 bytes
unfolding behind
ip4_body bytes fits h = by (front_of (record { bytes = bytes; fits = fits; long = h.long }))
  where
    behind_front : (f : HasFront bytes) → HasLengths bytes f → AtLeast (f.front.total - f.front.first % 16 * 4)
    behind_front f l =
        behind (f.front.first % 16 * 4 - 20) (f.front.total - f.front.first % 16 * 4) (record { bytes = f.rest.bytes; fits = f.rest.fits; long = omega (arith, l.header, l.total, l.there) })

    by : HasFront bytes → HasBody 0x0800 bytes
    by f =
        let l = lengths_of bytes f h in
        with_part bytes h f l (part_of f.front.frag f.front.proto (f.front.total - f.front.first % 16 * 4) (behind_front f l))
