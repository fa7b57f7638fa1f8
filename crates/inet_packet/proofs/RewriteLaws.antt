-- Rewrites keep packets whole and right sums right.
use Rattle.std.proofs.Common.{◌≡◌, ◌+◌, ◌*◌, ◌^◌, ◌/◌, ◌%◌, ◌<◌, ◌≤◌, ℕ, zero, suc, List, [], ◌∷◌, ◌++◌, length, take, refl, ap, sym, subst, ◌∙◌, arith, inl, inr, ◌⊎◌, ⊎_elim}
use Rattle.std.proofs.lemmas.Bool.{cases_eq, eq-eqb}
use Rattle.std.proofs.lemmas.List.{length-append}
use Rattle.inet_packet.specs.declared.packet.Ip4Packet.{Ip4Packet}
use Rattle.inet_packet.specs.declared.packet.Part.{Part}
use Rattle.inet_packet.specs.declared.packet.Part.TheVariants.{Tcp, Udp, Icmp, OtherIp, Fragment}
use Rattle.inet_packet.specs.Frame.{two, four, ip4_header, part_bytes}
use Rattle.inet_packet.specs.Rewrites.{updated, updated_set, udp_updated, over_address, part_over_address, part_with_ports, part_as_reply}
use Rattle.inet_packet.specs.Sums.{plain}
use Rattle.inet_packet.specs.Whole.{AreBytes, IsPart, IsPartWithin, IsIp4Within}
use Rattle.inet_packet.proofs.SumLaws.{IsBytes, IsChange, no_change, then_change, updated_change, updated_set_change, updated_set_some, udp_updated_change, udp_updated_some}

-- ---- bytes

pub cons_bytes : (b : ℕ) (xs : List ℕ) → b < 256 → IsBytes xs → IsBytes (b ∷ xs)
cons_bytes b xs p h zero = p
cons_bytes b xs p h (suc k) = h k

pub nil_bytes : IsBytes []
nil_bytes k = omega arith

pub two_bytes : (n : ℕ) (xs : List ℕ) → IsBytes xs → IsBytes (two n ++ xs)
two_bytes n xs h = cons_bytes (n / 256 % 256) (n % 256 ∷ xs) (omega arith) (cons_bytes (n % 256) xs (omega arith) h)

pub four_bytes : (n : ℕ) (xs : List ℕ) → IsBytes xs → IsBytes (four n ++ xs)
four_bytes n xs h = cons_bytes (n / 16777216 % 256) (n / 65536 % 256 ∷ n / 256 % 256 ∷ n % 256 ∷ xs) (omega arith) (cons_bytes (n / 65536 % 256) (n / 256 % 256 ∷ n % 256 ∷ xs) (omega arith) (cons_bytes (n / 256 % 256) (n % 256 ∷ xs) (omega arith) (cons_bytes (n % 256) xs (omega arith) h)))

pub append_bytes : (xs ys : List ℕ) → IsBytes xs → IsBytes ys → IsBytes (xs ++ ys)
append_bytes [] ys h k i = k i
append_bytes (x ∷ xs) ys h k zero = h 0
append_bytes (x ∷ xs) ys h k (suc i) = append_bytes xs ys (λ j. h (suc j)) k i

pub all_bytes : (xs : List ℕ) → AreBytes xs → IsBytes xs
all_bytes [] h i = omega arith
all_bytes (x ∷ xs) h zero = h 0 0 (omega arith)
all_bytes (x ∷ xs) h (suc i) = all_bytes xs (λ k d lt. h (suc k) d (omega (arith, lt))) i

pub take_bytes : (n : ℕ) (xs : List ℕ) → IsBytes xs → IsBytes (take n xs)
take_bytes zero xs h i = omega arith
take_bytes (suc n) [] h i = omega arith
take_bytes (suc n) (x ∷ xs) h zero = h 0
take_bytes (suc n) (x ∷ xs) h (suc i) = take_bytes n xs (λ j. h (suc j)) i

pub header_bytes : (i : Ip4Packet) → IsIp4Within i → IsBytes (ip4_header i)
unfolding ip4_header
header_bytes i h =
    let x9 = four i.dst.0 ++ i.options in
    let x8 = four i.src.0 ++ x9 in
    let x7 = two i.sum ++ x8 in
    let x6 = i.proto ∷ x7 in
    let x5 = i.ttl ∷ x6 in
    let x4 = two i.frag ++ x5 in
    let x3 = two i.ident ++ x4 in
    let x2 = two i.total ++ x3 in
    let h9 : IsBytes x9 = four_bytes i.dst.0 i.options (all_bytes i.options h.options) in
    let h8 : IsBytes x8 = four_bytes i.src.0 x9 h9 in
    let h7 : IsBytes x7 = two_bytes i.sum x8 h8 in
    let h6 : IsBytes x6 = cons_bytes i.proto x7 h.proto h7 in
    let h5 : IsBytes x5 = cons_bytes i.ttl x6 h.ttl h6 in
    let h4 : IsBytes x4 = two_bytes i.frag x5 h5 in
    let h3 : IsBytes x3 = two_bytes i.ident x4 h4 in
    let h2 : IsBytes x2 = two_bytes i.total x3 h3 in
    cons_bytes ((64 + (5 + length i.options / 4)) % 256) (i.tos ∷ x2) (omega arith) (cons_bytes i.tos x2 h.tos h2)

pub part_is_bytes : (p : Part) → IsPartWithin p → IsBytes (part_bytes p)
part_is_bytes (Tcp src_port dst_port middle sum urgent) h =
    let last = two sum ++ two urgent in
    two_bytes src_port (two dst_port ++ (middle ++ last)) (two_bytes dst_port (middle ++ last) (append_bytes middle last (all_bytes middle h.3) (two_bytes sum (two urgent) (two_bytes urgent [] nil_bytes))))
part_is_bytes (Udp src_port dst_port len sum) h = two_bytes src_port (two dst_port ++ (two len ++ two sum)) (two_bytes dst_port (two len ++ two sum) (two_bytes len (two sum) (two_bytes sum [] nil_bytes)))
part_is_bytes (Icmp kind code sum ident) h = cons_bytes kind (code ∷ (two sum ++ two ident)) h.0 (cons_bytes code (two sum ++ two ident) h.1 (two_bytes sum (two ident) (two_bytes ident [] nil_bytes)))
part_is_bytes OtherIp h = nil_bytes
part_is_bytes Fragment h = nil_bytes

-- ---- sums of headers

pub in_two : (n : ℕ) → n < 2 ^ 16 → n / 256 % 256 * 256 + n % 256 ≡ n
in_two n h = omega (arith, h)

pub high_in_four : (n : ℕ) → n < 2 ^ 32 → n / 16777216 % 256 * 256 + n / 65536 % 256 ≡ n / 65536
high_in_four n h = omega (arith, h)

pub low_in_four : (n : ℕ) → n / 256 % 256 * 256 + n % 256 ≡ n % 65536
low_in_four n = omega arith

-- what a header's words add up to: the words that a rewrite changes, and the others
abbrev pub others : Ip4Packet → ℕ
others i = (64 + (5 + length i.options / 4)) % 256 * 256 + i.tos + i.total + i.ident + i.frag + plain i.options

pub grouped : (first tos a total b ident c frag w d sum e sh f sl g dh k dl o : ℕ) → a ≡ total → b ≡ ident → c ≡ frag → d ≡ sum → e ≡ sh → f ≡ sl → g ≡ dh → k ≡ dl
    → first * 256 + tos + (a + (b + (c + (w + (d + (e + (f + (g + (k + o))))))))) ≡ first * 256 + tos + total + ident + frag + o + (w + sum + (sh + sl) + (dh + dl))
grouped first tos a total b ident c frag w d sum e sh f sl g dh k dl o p1 p2 p3 p4 p5 p6 p7 p8 = omega (arith, p1, p2, p3, p4, p5, p6, p7, p8)

pub plain_header : (i : Ip4Packet) → IsIp4Within i → plain (ip4_header i) ≡ others i + (i.ttl * 256 + i.proto + i.sum + (i.src.0 / 65536 + i.src.0 % 65536) + (i.dst.0 / 65536 + i.dst.0 % 65536))
unfolding ip4_header
plain_header i h = grouped ((64 + (5 + length i.options / 4)) % 256) i.tos _ i.total _ i.ident _ i.frag (i.ttl * 256 + i.proto) _ i.sum _ (i.src.0 / 65536) _ (i.src.0 % 65536) _ (i.dst.0 / 65536) _ (i.dst.0 % 65536) (plain i.options)
    (in_two i.total h.total) (in_two i.ident h.ident) (in_two i.frag h.frag) (in_two i.sum h.sum) (high_in_four i.src.0 h.src) (low_in_four i.src.0) (high_in_four i.dst.0 h.dst) (low_in_four i.dst.0)

pub header_some : (i : Ip4Packet) → length i.options ≤ 40 → 0 < others i
header_some i h = omega (arith, h)

-- ---- changes of sums

-- the two words of an address
abbrev pub address_words : ℕ → ℕ
address_words a = a / 65536 + a % 65536

pub over_change : (sum a b : ℕ) → sum ≤ 65535 → a < 2 ^ 32 → b < 2 ^ 32 → IsChange sum (address_words a) (address_words b) (over_address updated sum a b)
over_change sum a b hs ha hb =
    let one = updated_change sum (a / 65536) (b / 65536) hs (omega (arith, ha)) (omega (arith, hb)) in
    let new = updated sum (a / 65536) (b / 65536) in
    then_change sum (a / 65536) (b / 65536) new (a % 65536) (b % 65536) (over_address updated sum a b) one (updated_change new (a % 65536) (b % 65536) one.max (omega arith) (omega arith))

pub udp_over_change : (sum a b : ℕ) → 0 < sum → sum ≤ 65535 → a < 2 ^ 32 → b < 2 ^ 32 → IsChange sum (address_words a) (address_words b) (over_address udp_updated sum a b)
udp_over_change sum a b pos hs ha hb =
    let one = udp_updated_change sum (a / 65536) (b / 65536) pos hs (omega (arith, ha)) (omega (arith, hb)) in
    let new = udp_updated sum (a / 65536) (b / 65536) in
    let some : 0 < new = udp_updated_some sum (a / 65536) (b / 65536) pos in
    then_change sum (a / 65536) (b / 65536) new (a % 65536) (b % 65536) (over_address udp_updated sum a b) one (udp_updated_change new (a % 65536) (b % 65536) some one.max (omega arith) (omega arith))

pub udp_ports_change : (sum s d src dst : ℕ) → 0 < sum → sum ≤ 65535 → s < 2 ^ 16 → d < 2 ^ 16 → src < 2 ^ 16 → dst < 2 ^ 16 → IsChange sum (s + d) (src + dst) (udp_updated (udp_updated sum s src) d dst)
udp_ports_change sum s d src dst pos h hs hd hsrc hdst =
    let one = udp_updated_change sum s src pos h (omega (arith, hs)) (omega (arith, hsrc)) in
    let some : 0 < udp_updated sum s src = udp_updated_some sum s src pos in
    then_change sum s src (udp_updated sum s src) d dst (udp_updated (udp_updated sum s src) d dst) one (udp_updated_change (udp_updated sum s src) d dst some one.max (omega (arith, hd)) (omega (arith, hdst)))

pub tcp_ports_change : (sum s d src dst : ℕ) → sum ≤ 65535 → s < 2 ^ 16 → d < 2 ^ 16 → src < 2 ^ 16 → dst < 2 ^ 16 → IsChange sum (s + d) (src + dst) (updated (updated sum s src) d dst)
tcp_ports_change sum s d src dst h hs hd hsrc hdst =
    let one = updated_change sum s src h (omega (arith, hs)) (omega (arith, hsrc)) in
    then_change sum s src (updated sum s src) d dst (updated (updated sum s src) d dst) one (updated_change (updated sum s src) d dst one.max (omega (arith, hd)) (omega (arith, hdst)))

-- a change among words that stay
pub beside : (sum m n new a b : ℕ) → IsChange sum m n new → b + m ≡ a + n → IsChange sum a b new
beside sum m n new a b c e = record { more = c.more; less = c.less; same = omega (arith, c.same, e); max = c.max }

-- ---- parts

-- a part with other numbers in it
pub record IsLike (p q : Part) : Type 0 where
  pub len : length (part_bytes q) ≡ length (part_bytes p)
  pub named : (frag proto len : ℕ) → IsPart frag proto len p → IsPart frag proto len q
  pub within : IsPartWithin q

-- the part's sum has changed with its words, and with those of the addresses, which were a and are b
abbrev pub IsChanged : ℕ → ℕ → Part → Part → Type 0
IsChanged a b (Tcp s d m c u) (Tcp s' d' m' c' u') = (m ≡ m') × (u ≡ u') × IsChange c (a + (s + d)) (b + (s' + d')) c'
IsChanged a b (Udp s d l c) (Udp s' d' l' c') = (l ≡ l') × (c ≡ 0 → c' ≡ 0) × (0 < c → IsChange c (a + (s + d)) (b + (s' + d')) c')
IsChanged a b (Icmp k o c n) (Icmp k' o' c' n') = IsChange c (k * 256 + o + n) (k' * 256 + o' + n') c' × ((0 < c') ⊎ ((c ≡ c') × (k * 256 + o + n ≡ k' * 256 + o' + n')))
IsChanged a b OtherIp OtherIp = Unit {0}
IsChanged a b Fragment Fragment = Unit {0}
IsChanged a b p q = ⊥

pub tcp_len : (s d c u s' d' c' u' : ℕ) (m : List ℕ) → length (part_bytes (Tcp s' d' m c' u')) ≡ length (part_bytes (Tcp s d m c u))
tcp_len s d c u s' d' c' u' m = ap (λ (n : ℕ). suc (suc (suc (suc n)))) (length-append m (two c' ++ two u') ∙ sym (length-append m (two c ++ two u)))

pub udp_max : (sum new : ℕ) → sum < 2 ^ 16 → (sum ≡ 0 → new ≡ 0) → (0 < sum → new ≤ 65535) → new < 2 ^ 16
udp_max sum new h z p = elim (cases_eq sum 0) [ inl e ↦ let q : new ≡ 0 = z e in omega (arith, q) | inr ne ↦ let q : new ≤ 65535 = p (omega (arith, ne)) in omega (arith, q) ]

pub zero_over : (sum a b : ℕ) → sum ≡ 0 → over_address udp_updated sum a b ≡ 0
zero_over sum a b e = subst (λ (x : ℕ). over_address udp_updated x a b ≡ 0) (sym e) refl

pub zero_ports : (sum s d src dst : ℕ) → sum ≡ 0 → udp_updated (udp_updated sum s src) d dst ≡ 0
zero_ports sum s d src dst e = subst (λ (x : ℕ). udp_updated (udp_updated x s src) d dst ≡ 0) (sym e) refl

pub like_over : (a b : ℕ) (p : Part) → a < 2 ^ 32 → b < 2 ^ 32 → IsPartWithin p → IsLike p (part_over_address a b p)
like_over a b (Tcp s d m c u) ha hb w = record {
  len = tcp_len s d c u s d (over_address updated c a b) u m;
  named = λ frag proto len h. h;
  within = (w.0, w.1, w.2, w.3, omega (arith, (over_change c a b (omega (arith, w.4)) ha hb).max), w.5);
}
like_over a b (Udp s d l c) ha hb w = record {
  len = refl;
  named = λ frag proto len h. h;
  within = (w.0, w.1, w.2, udp_max c (over_address udp_updated c a b) w.3 (zero_over c a b) (λ pos. (udp_over_change c a b pos (omega (arith, w.3)) ha hb).max));
}
like_over a b (Icmp k o c n) ha hb w = record { len = refl; named = λ frag proto len h. h; within = w }
like_over a b OtherIp ha hb w = record { len = refl; named = λ frag proto len h. h; within = w }
like_over a b Fragment ha hb w = record { len = refl; named = λ frag proto len h. h; within = w }

pub changed_over : (a b rest : ℕ) (p : Part) → a < 2 ^ 32 → b < 2 ^ 32 → IsPartWithin p → IsChanged (address_words a + rest) (address_words b + rest) p (part_over_address a b p)
changed_over a b rest (Tcp s d m c u) ha hb w = (refl, refl, beside c (address_words a) (address_words b) (over_address updated c a b) (address_words a + rest + (s + d)) (address_words b + rest + (s + d)) (over_change c a b (omega (arith, w.4)) ha hb) (omega arith))
changed_over a b rest (Udp s d l c) ha hb w = (refl, zero_over c a b, λ pos. beside c (address_words a) (address_words b) (over_address udp_updated c a b) (address_words a + rest + (s + d)) (address_words b + rest + (s + d)) (udp_over_change c a b pos (omega (arith, w.3)) ha hb) (omega arith))
changed_over a b rest (Icmp k o c n) ha hb w = (no_change c (k * 256 + o + n) (omega (arith, w.2)), inr (refl, refl))
changed_over a b rest OtherIp ha hb w = tt
changed_over a b rest Fragment ha hb w = tt

pub like_ports : (src dst : ℕ) (p : Part) → src < 2 ^ 16 → dst < 2 ^ 16 → IsPartWithin p → IsLike p (part_with_ports src dst p)
like_ports src dst (Tcp s d m c u) hs hd w = record {
  len = tcp_len s d c u src dst (updated (updated c s src) d dst) u m;
  named = λ frag proto len h. h;
  within = (hs, hd, w.2, w.3, omega (arith, (tcp_ports_change c s d src dst (omega (arith, w.4)) w.0 w.1 hs hd).max), w.5);
}
like_ports src dst (Udp s d l c) hs hd w = record {
  len = refl;
  named = λ frag proto len h. h;
  within = (hs, hd, w.2, udp_max c (udp_updated (udp_updated c s src) d dst) w.3 (zero_ports c s d src dst) (λ pos. (udp_ports_change c s d src dst pos (omega (arith, w.3)) w.0 w.1 hs hd).max));
}
like_ports src dst (Icmp k o c n) hs hd w = record {
  len = refl;
  named = λ frag proto len h. h;
  within = (w.0, w.1, omega (arith, (updated_set_change c n src (omega (arith, w.2)) (omega (arith, w.3)) (omega (arith, hs))).max), hs);
}
like_ports src dst OtherIp hs hd w = record { len = refl; named = λ frag proto len h. h; within = w }
like_ports src dst Fragment hs hd w = record { len = refl; named = λ frag proto len h. h; within = w }

-- a sum that is written 0xffff for 0 is not 0, or nothing has changed
pub set_or_same : (c m n : ℕ) → (0 < updated_set c m n) ⊎ ((c ≡ updated_set c m n) × (m ≡ n))
set_or_same c m n = elim (cases_eq m n) [ inl e ↦ inr (subst (λ (x : ℕ). c ≡ updated_set c m x) e (rw (eq-eqb m m refl) refl), e) | inr ne ↦ inl (updated_set_some c m n ne) ]

pub changed_ports : (rest src dst : ℕ) (p : Part) → src < 2 ^ 16 → dst < 2 ^ 16 → IsPartWithin p → IsChanged rest rest p (part_with_ports src dst p)
changed_ports rest src dst (Tcp s d m c u) hs hd w = (refl, refl, beside c (s + d) (src + dst) (updated (updated c s src) d dst) (rest + (s + d)) (rest + (src + dst)) (tcp_ports_change c s d src dst (omega (arith, w.4)) w.0 w.1 hs hd) (omega arith))
changed_ports rest src dst (Udp s d l c) hs hd w = (refl, zero_ports c s d src dst, λ pos. beside c (s + d) (src + dst) (udp_updated (udp_updated c s src) d dst) (rest + (s + d)) (rest + (src + dst)) (udp_ports_change c s d src dst pos (omega (arith, w.3)) w.0 w.1 hs hd) (omega arith))
changed_ports rest src dst (Icmp k o c n) hs hd w = (
  beside c n src (updated_set c n src) (k * 256 + o + n) (k * 256 + o + src) (updated_set_change c n src (omega (arith, w.2)) (omega (arith, w.3)) (omega (arith, hs))) (omega arith),
  ⊎_elim (λ pos. inl pos) (λ same. inr (same.0, ap (λ (x : ℕ). k * 256 + o + x) same.1)) (set_or_same c n src),
)
changed_ports rest src dst OtherIp hs hd w = tt
changed_ports rest src dst Fragment hs hd w = tt

pub like_reply : (p : Part) → IsPartWithin p → IsLike p (part_as_reply p)
like_reply (Icmp k o c n) w = record {
  len = refl;
  named = λ frag proto len h. h;
  within = (omega arith, w.1, omega (arith, (updated_set_change c (k * 256 + o) o (omega (arith, w.2)) (omega (arith, w.0, w.1)) (omega (arith, w.1))).max), w.3);
}
like_reply (Tcp s d m c u) w = record { len = refl; named = λ frag proto len h. h; within = w }
like_reply (Udp s d l c) w = record { len = refl; named = λ frag proto len h. h; within = w }
like_reply OtherIp w = record { len = refl; named = λ frag proto len h. h; within = w }
like_reply Fragment w = record { len = refl; named = λ frag proto len h. h; within = w }

pub changed_reply : (rest : ℕ) (p : Part) → IsPartWithin p → IsChanged rest rest p (part_as_reply p)
changed_reply rest (Icmp k o c n) w = (
  beside c (k * 256 + o) o (updated_set c (k * 256 + o) o) (k * 256 + o + n) (0 * 256 + o + n) (updated_set_change c (k * 256 + o) o (omega (arith, w.2)) (omega (arith, w.0, w.1)) (omega (arith, w.1))) (omega arith),
  ⊎_elim (λ pos. inl pos) (λ same. inr (same.0, omega (arith, same.1))) (set_or_same c (k * 256 + o) o),
)
changed_reply rest (Tcp s d m c u) w = (refl, refl, no_change c (rest + (s + d)) (omega (arith, w.4)))
changed_reply rest (Udp s d l c) w = (refl, λ z. z, λ pos. no_change c (rest + (s + d)) (omega (arith, w.3)))
changed_reply rest OtherIp w = tt
changed_reply rest Fragment w = tt
