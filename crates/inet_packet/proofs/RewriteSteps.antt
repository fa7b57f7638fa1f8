-- Each rewrite of an IPv4 packet keeps it whole, and a right sum right.
use Rattle.std.proofs.Common.{◌≡◌, ◌+◌, ◌*◌, ◌-◌, ◌^◌, ◌/◌, ◌%◌, ◌<◌, ◌≤◌, ℕ, suc, List, [], ◌∷◌, ◌++◌, length, take, refl, ap, sym, subst, ◌∙◌, append_assoc, arith, inl, inr, ◌⊎◌, ⊎_elim}
use Rattle.std.proofs.Math.Seq.{take-append-add}
use Rattle.std.proofs.lemmas.Bool.{cases_eq}
use Rattle.std.proofs.lemmas.List.{length-append}
use Rattle.ovn_base.specs.declared.address.Ip4 as addresses
use Rattle.ovn_base.specs.declared.address.Mac.{Mac}
use Rattle.inet_packet.specs.declared.packet.Arp as records
use Rattle.inet_packet.specs.declared.packet.Body.{Body}
use Rattle.inet_packet.specs.declared.packet.Body.TheVariants.{Arp, Ip4, Other}
use Rattle.inet_packet.specs.declared.packet.Ip4Packet.{Ip4Packet}
use Rattle.inet_packet.specs.declared.packet.Packet.{Packet}
use Rattle.inet_packet.specs.declared.packet.Part.{Part}
use Rattle.inet_packet.specs.declared.packet.Part.TheVariants.{Tcp, Udp, Icmp, OtherIp, Fragment}
use Rattle.inet_packet.specs.Frame.{two, four, ip4_header, part_bytes, body_bytes, frame_of}
use Rattle.inet_packet.specs.Rewrites.{updated, over_address, part_over_address, part_with_ports, part_as_reply, ip4_with_src, ip4_with_dst, ip4_with_ttl, ip4_dec_ttl, ip4_with_ports, ip4_swapped, ip4_as_reply, with_ip4, with_arp_reply, IsArp}
use Rattle.inet_packet.specs.Sums.{words, plain, ones_sum}
use Rattle.inet_packet.specs.Transport.{SumsUp, segment, segment_len, pseudo_header, IsRightPart, HasRightSum}
use Rattle.inet_packet.specs.Whole.{IsPart, IsPartWithin, IsIp4Within, IsWhole, IsWholeArp, IsWholeBody, IsWholeIp4}
use Rattle.inet_packet.proofs.Ip4.{length-ip4_header}
use Rattle.inet_packet.proofs.SumLaws.{IsBytes, plain_append, sums_up_from, sums_up_to, folded, IsChange, no_change, updated_change}
use Rattle.inet_packet.proofs.RewriteLaws.{cons_bytes, two_bytes, four_bytes, append_bytes, all_bytes, take_bytes, header_bytes, part_is_bytes, in_two, high_in_four, low_in_four, others, plain_header, header_some, address_words, over_change, beside, IsLike, IsChanged, like_over, changed_over, like_ports, changed_ports, like_reply, changed_reply}

-- ---- sums of transports

-- a sum stays right where the plain one changes by multiples of 65,535
stays : (xs ys : List ℕ) (j k : ℕ) → IsBytes xs → IsBytes ys → 0 < plain ys → plain ys + 65535 * j ≡ plain xs + 65535 * k → SumsUp xs → SumsUp ys
stays xs ys j k hx hy pos e up =
    let m = sums_up_to xs hx up in
    sums_up_from ys j (m.0 + k) hy pos (omega (arith, e, m.1))

-- the words in front of a transport header
abbrev front_words : Ip4Packet → ℕ
front_words i = address_words i.src.0 + (address_words i.dst.0 + (i.proto + segment_len i))

pseudo_grouped : (a sh b sl c dh d dl p e len x : ℕ) → a ≡ sh → b ≡ sl → c ≡ dh → d ≡ dl → e ≡ len → a + (b + (c + (d + (0 * 256 + p + (e + x))))) ≡ (sh + sl + (dh + dl + (p + len))) + x
pseudo_grouped a sh b sl c dh d dl p e len x p1 p2 p3 p4 p5 = omega (arith, p1, p2, p3, p4, p5)

plain_pseudo : (i : Ip4Packet) (xs : List ℕ) → i.src.0 < 2 ^ 32 → i.dst.0 < 2 ^ 32 → i.total < 2 ^ 16 → plain (pseudo_header i ++ xs) ≡ front_words i + plain xs
plain_pseudo i xs hs hd ht =
    pseudo_grouped _ (i.src.0 / 65536) _ (i.src.0 % 65536) _ (i.dst.0 / 65536) _ (i.dst.0 % 65536) i.proto _ (segment_len i) (plain xs)
    (high_in_four i.src.0 hs) (low_in_four i.src.0) (high_in_four i.dst.0 hd) (low_in_four i.dst.0) (in_two (segment_len i) (omega (arith, ht)))

pseudo_bytes : (i : Ip4Packet) → i.proto < 256 → IsBytes (pseudo_header i)
pseudo_bytes i h =
    let x4 = two (segment_len i) in
    let x2 = 0 ∷ i.proto ∷ x4 in
    let h4 : IsBytes x4 = two_bytes (segment_len i) [] (λ k. omega arith) in
    let h2 : IsBytes x2 = cons_bytes 0 (i.proto ∷ x4) (omega arith) (cons_bytes i.proto x4 h h4) in
    four_bytes i.src.0 (four i.dst.0 ++ x2) (four_bytes i.dst.0 x2 h2)

-- a transport header of which nothing is cut, and its data
segment_parts : (p : Part) (tail : List ℕ) (len : ℕ) → length (part_bytes p) ≤ len → take len (part_bytes p ++ tail) ≡ part_bytes p ++ take (len - length (part_bytes p)) tail
segment_parts p tail len h =
    let e : len ≡ length (part_bytes p) + (len - length (part_bytes p)) = omega (arith, h) in
    ap (λ (n : ℕ). take n (part_bytes p ++ tail)) e ∙ take-append-add (part_bytes p) tail (len - length (part_bytes p))

tcp_grouped : (s s' d d' m c c' u u' x : ℕ) → s' ≡ s → d' ≡ d → c' ≡ c → u' ≡ u → s' + (d' + (m + (c' + (u' + x)))) ≡ s + d + (m + u + x) + c
tcp_grouped s s' d d' m c c' u u' x p1 p2 p3 p4 = omega (arith, p1, p2, p3, p4)

plain_tcp : (s d : ℕ) (m : List ℕ) (c u : ℕ) (xs : List ℕ) → s < 2 ^ 16 → d < 2 ^ 16 → length m ≡ 12 → c < 2 ^ 16 → u < 2 ^ 16 → plain (part_bytes (Tcp s d m c u) ++ xs) ≡ s + d + (plain m + u + plain xs) + c
plain_tcp s d m c u xs hs hd hm hc hu =
    let r = two c ++ two u in
    let inner : plain ((m ++ r) ++ xs) ≡ plain m + plain (r ++ xs) = ap plain (append_assoc m r xs) ∙ plain_append 6 m (r ++ xs) hm in
    ap (λ (n : ℕ). (s / 256 % 256 * 256 + s % 256) + ((d / 256 % 256 * 256 + d % 256) + n)) inner
    ∙ tcp_grouped s _ d _ (plain m) c _ u _ (plain xs) (in_two s hs) (in_two d hd) (in_two c hc) (in_two u hu)

udp_grouped : (s s' d d' l l' c c' x : ℕ) → s' ≡ s → d' ≡ d → l' ≡ l → c' ≡ c → s' + (d' + (l' + (c' + x))) ≡ s + d + (l + x) + c
udp_grouped s s' d d' l l' c c' x p1 p2 p3 p4 = omega (arith, p1, p2, p3, p4)

plain_udp : (s d l c : ℕ) (xs : List ℕ) → s < 2 ^ 16 → d < 2 ^ 16 → l < 2 ^ 16 → c < 2 ^ 16 → plain (part_bytes (Udp s d l c) ++ xs) ≡ s + d + (l + plain xs) + c
plain_udp s d l c xs hs hd hl hc = udp_grouped s _ d _ l _ c _ (plain xs) (in_two s hs) (in_two d hd) (in_two l hl) (in_two c hc)

icmp_grouped : (w c c' n n' x : ℕ) → c' ≡ c → n' ≡ n → w + (c' + (n' + x)) ≡ w + n + x + c
icmp_grouped w c c' n n' x p1 p2 = omega (arith, p1, p2)

plain_icmp : (k o c n : ℕ) (xs : List ℕ) → c < 2 ^ 16 → n < 2 ^ 16 → plain (part_bytes (Icmp k o c n) ++ xs) ≡ k * 256 + o + n + plain xs + c
plain_icmp k o c n xs hc hn = icmp_grouped (k * 256 + o) c _ n _ (plain xs) (in_two c hc) (in_two n hn)

-- the protocol alone makes the sum more than 0
some_of : (f a b proto len x y n : ℕ) → f ≡ a + (b + (proto + len)) → proto ≡ suc n → y ≡ f + x → 0 < y
some_of f a b proto len x y n p q e = omega (arith, p, q, e)

moved : (f g a b x c d s t j k : ℕ) → s ≡ f + (a + x + c) → t ≡ g + (b + x + d) → d + (g + b) + 65535 * j ≡ c + (f + a) + 65535 * k → t + 65535 * j ≡ s + 65535 * k
moved f g a b x c d s t j k p q e = omega (arith, p, q, e)

-- what a rewrite may change of a header
pub record IsBeside (i j : Ip4Packet) : Type 0 where
  pub i_within : IsIp4Within i
  pub j_within : IsIp4Within j
  pub proto : j.proto ≡ i.proto
  pub len : segment_len j ≡ segment_len i

segment_bytes : (p : Part) (tail : List ℕ) (len : ℕ) → IsPartWithin p → IsBytes tail → IsBytes (take len (part_bytes p ++ tail))
segment_bytes p tail len h t = take_bytes len (part_bytes p ++ tail) (append_bytes (part_bytes p) tail (part_is_bytes p h) t)

tcp_stays : (i j : Ip4Packet) (s d : ℕ) (m : List ℕ) (c u s' d' c' : ℕ) (tail : List ℕ) → IsBeside i j → IsBytes tail → IsPartWithin (Tcp s d m c u) → IsPartWithin (Tcp s' d' m c' u) → i.proto ≡ 6 → 20 ≤ segment_len i
    → IsChange c (front_words i + (s + d)) (front_words j + (s' + d')) c'
    → SumsUp (pseudo_header i ++ take (segment_len i) (part_bytes (Tcp s d m c u) ++ tail)) → SumsUp (pseudo_header j ++ take (segment_len j) (part_bytes (Tcp s' d' m c' u) ++ tail))
tcp_stays i j s d m c u s' d' c' tail b t w v six long ch up =
    let p = Tcp s d m c u in
    let q = Tcp s' d' m c' u in
    let lp : length (part_bytes p) ≡ 20 = omega (arith, length-append m (two c ++ two u), w.2) in
    let lq : length (part_bytes q) ≡ 20 = omega (arith, length-append m (two c' ++ two u), w.2) in
    let behind = take (segment_len i - 20) tail in
    let sp : take (segment_len i) (part_bytes p ++ tail) ≡ part_bytes p ++ behind = segment_parts p tail (segment_len i) (omega (arith, lp, long)) ∙ ap (λ (n : ℕ). part_bytes p ++ take (segment_len i - n) tail) lp in
    let sq : take (segment_len j) (part_bytes q ++ tail) ≡ part_bytes q ++ behind = ap (λ (n : ℕ). take n (part_bytes q ++ tail)) b.len ∙ segment_parts q tail (segment_len i) (omega (arith, lq, long)) ∙ ap (λ (n : ℕ). part_bytes q ++ take (segment_len i - n) tail) lq in
    let xs = pseudo_header i ++ take (segment_len i) (part_bytes p ++ tail) in
    let ys = pseudo_header j ++ take (segment_len j) (part_bytes q ++ tail) in
    let px : plain xs ≡ front_words i + (s + d + (plain m + u + plain behind) + c) = plain_pseudo i (take (segment_len i) (part_bytes p ++ tail)) b.i_within.src b.i_within.dst b.i_within.total ∙ ap (λ (n : ℕ). front_words i + n) (ap plain sp ∙ plain_tcp s d m c u behind w.0 w.1 w.2 w.4 w.5) in
    let py : plain ys ≡ front_words j + (s' + d' + (plain m + u + plain behind) + c') = plain_pseudo j (take (segment_len j) (part_bytes q ++ tail)) b.j_within.src b.j_within.dst b.j_within.total ∙ ap (λ (n : ℕ). front_words j + n) (ap plain sq ∙ plain_tcp s' d' m c' u behind v.0 v.1 v.2 v.4 v.5) in
    let hx : IsBytes xs = append_bytes (pseudo_header i) (take (segment_len i) (part_bytes p ++ tail)) (pseudo_bytes i b.i_within.proto) (segment_bytes p tail (segment_len i) w t) in
    let hy : IsBytes ys = append_bytes (pseudo_header j) (take (segment_len j) (part_bytes q ++ tail)) (pseudo_bytes j b.j_within.proto) (segment_bytes q tail (segment_len j) v t) in
    stays xs ys ch.more ch.less hx hy (some_of (front_words j) (address_words j.src.0) (address_words j.dst.0) j.proto (segment_len j) (s' + d' + (plain m + u + plain behind) + c') (plain ys) 5 refl (b.proto ∙ six) py) (moved (front_words i) (front_words j) (s + d) (s' + d') (plain m + u + plain behind) c c' (plain xs) (plain ys) ch.more ch.less px py ch.same) up

udp_stays : (i j : Ip4Packet) (s d l c s' d' c' : ℕ) (tail : List ℕ) → IsBeside i j → IsBytes tail → IsPartWithin (Udp s d l c) → IsPartWithin (Udp s' d' l c') → i.proto ≡ 17 → 8 ≤ segment_len i
    → IsChange c (front_words i + (s + d)) (front_words j + (s' + d')) c'
    → SumsUp (pseudo_header i ++ take (segment_len i) (part_bytes (Udp s d l c) ++ tail)) → SumsUp (pseudo_header j ++ take (segment_len j) (part_bytes (Udp s' d' l c') ++ tail))
udp_stays i j s d l c s' d' c' tail b t w v kind long ch up =
    let p = Udp s d l c in
    let q = Udp s' d' l c' in
    let behind = take (segment_len i - 8) tail in
    let sp : take (segment_len i) (part_bytes p ++ tail) ≡ part_bytes p ++ behind = segment_parts p tail (segment_len i) long in
    let sq : take (segment_len j) (part_bytes q ++ tail) ≡ part_bytes q ++ behind = ap (λ (n : ℕ). take n (part_bytes q ++ tail)) b.len ∙ segment_parts q tail (segment_len i) long in
    let xs = pseudo_header i ++ take (segment_len i) (part_bytes p ++ tail) in
    let ys = pseudo_header j ++ take (segment_len j) (part_bytes q ++ tail) in
    let px : plain xs ≡ front_words i + (s + d + (l + plain behind) + c) = plain_pseudo i (take (segment_len i) (part_bytes p ++ tail)) b.i_within.src b.i_within.dst b.i_within.total ∙ ap (λ (n : ℕ). front_words i + n) (ap plain sp ∙ plain_udp s d l c behind w.0 w.1 w.2 w.3) in
    let py : plain ys ≡ front_words j + (s' + d' + (l + plain behind) + c') = plain_pseudo j (take (segment_len j) (part_bytes q ++ tail)) b.j_within.src b.j_within.dst b.j_within.total ∙ ap (λ (n : ℕ). front_words j + n) (ap plain sq ∙ plain_udp s' d' l c' behind v.0 v.1 v.2 v.3) in
    let hx : IsBytes xs = append_bytes (pseudo_header i) (take (segment_len i) (part_bytes p ++ tail)) (pseudo_bytes i b.i_within.proto) (segment_bytes p tail (segment_len i) w t) in
    let hy : IsBytes ys = append_bytes (pseudo_header j) (take (segment_len j) (part_bytes q ++ tail)) (pseudo_bytes j b.j_within.proto) (segment_bytes q tail (segment_len j) v t) in
    stays xs ys ch.more ch.less hx hy (some_of (front_words j) (address_words j.src.0) (address_words j.dst.0) j.proto (segment_len j) (s' + d' + (l + plain behind) + c') (plain ys) 16 refl (b.proto ∙ kind) py) (moved (front_words i) (front_words j) (s + d) (s' + d') (l + plain behind) c c' (plain xs) (plain ys) ch.more ch.less px py ch.same) up

icmp_moved : (a b x c d s t j k : ℕ) → s ≡ a + x + c → t ≡ b + x + d → d + b + 65535 * j ≡ c + a + 65535 * k → t + 65535 * j ≡ s + 65535 * k
icmp_moved a b x c d s t j k p q e = omega (arith, p, q, e)

-- a sum that is 0xffff is one of something
some_from : (xs : List ℕ) → IsBytes xs → SumsUp xs → 0 < plain xs
some_from xs h up = let f = folded xs h in omega (arith, f.same, up)

icmp_stays : (i j : Ip4Packet) (k o c n k' o' c' n' : ℕ) (tail : List ℕ) → IsBeside i j → IsBytes tail → IsPartWithin (Icmp k o c n) → IsPartWithin (Icmp k' o' c' n') → 8 ≤ segment_len i
    → IsChange c (k * 256 + o + n) (k' * 256 + o' + n') c' → ((0 < c') ⊎ ((c ≡ c') × (k * 256 + o + n ≡ k' * 256 + o' + n')))
    → SumsUp (take (segment_len i) (part_bytes (Icmp k o c n) ++ tail)) → SumsUp (take (segment_len j) (part_bytes (Icmp k' o' c' n') ++ tail))
icmp_stays i j k o c n k' o' c' n' tail b t w v long ch some up =
    let p = Icmp k o c n in
    let q = Icmp k' o' c' n' in
    let behind = take (segment_len i - 6) tail in
    let sp : take (segment_len i) (part_bytes p ++ tail) ≡ part_bytes p ++ behind = segment_parts p tail (segment_len i) (omega (arith, long)) in
    let sq : take (segment_len j) (part_bytes q ++ tail) ≡ part_bytes q ++ behind = ap (λ (n : ℕ). take n (part_bytes q ++ tail)) b.len ∙ segment_parts q tail (segment_len i) (omega (arith, long)) in
    let xs = take (segment_len i) (part_bytes p ++ tail) in
    let ys = take (segment_len j) (part_bytes q ++ tail) in
    let px : plain xs ≡ k * 256 + o + n + plain behind + c = ap plain sp ∙ plain_icmp k o c n behind w.2 w.3 in
    let py : plain ys ≡ k' * 256 + o' + n' + plain behind + c' = ap plain sq ∙ plain_icmp k' o' c' n' behind v.2 v.3 in
    let hx : IsBytes xs = segment_bytes p tail (segment_len i) w t in
    let hy : IsBytes ys = segment_bytes q tail (segment_len j) v t in
    let pos : 0 < plain ys = ⊎_elim (λ q. omega (arith, q, py)) (λ e. omega (arith, e.0, e.1, px, py, some_from xs hx up)) some in
    stays xs ys ch.more ch.less hx hy pos (icmp_moved (k * 256 + o + n) (k' * 256 + o' + n') (plain behind) c c' (plain xs) (plain ys) ch.more ch.less px py ch.same) up

-- what is right stays right
right_stays : (i j : Ip4Packet) (p q : Part) (frag : ℕ) (tail : List ℕ) → IsBeside i j → IsBytes tail → IsPartWithin p → IsPartWithin q → IsPart frag i.proto (segment_len i) p
    → IsChanged (front_words i) (front_words j) p q
    → IsRightPart (pseudo_header i) (take (segment_len i) (part_bytes p ++ tail)) p → IsRightPart (pseudo_header j) (take (segment_len j) (part_bytes q ++ tail)) q
right_stays i j (Tcp s d m c u) (Tcp s' d' m' c' u') frag tail b t w v h ch up =
    let mid : Part → Type 0 = λ x. SumsUp (pseudo_header j ++ take (segment_len j) (part_bytes x ++ tail)) in
    let v' : IsPartWithin (Tcp s' d' m c' u) = (v.0, v.1, w.2, w.3, v.4, w.5) in
    subst mid (λ n. Tcp s' d' (ch.0 n) c' (ch.1 n)) (tcp_stays i j s d m c u s' d' c' tail b t w v' h.1 h.2 ch.2 up)
right_stays i j (Tcp s d m c u) (Udp s' d' l' c') frag tail b t w v h ch up = absurd ch
right_stays i j (Tcp s d m c u) (Icmp k' o' c' n') frag tail b t w v h ch up = absurd ch
right_stays i j (Tcp s d m c u) OtherIp frag tail b t w v h ch up = absurd ch
right_stays i j (Tcp s d m c u) Fragment frag tail b t w v h ch up = absurd ch
right_stays i j (Udp s d l c) (Tcp s' d' m' c' u') frag tail b t w v h ch up = absurd ch
right_stays i j (Udp s d l c) (Udp s' d' l' c') frag tail b t w v h ch up =
    let mid : Part → Type 0 = λ x. SumsUp (pseudo_header j ++ take (segment_len j) (part_bytes x ++ tail)) in
    let v' : IsPartWithin (Udp s' d' l c') = (v.0, v.1, w.2, v.3) in
    elim (cases_eq c 0) [
      | inl z ↦ inl (ch.1 z)
      | inr ne ↦ inr (subst mid (λ n. Udp s' d' (ch.0 n) c') (udp_stays i j s d l c s' d' c' tail b t w v' h.1 h.2 (ch.2 (omega (arith, ne))) (⊎_elim (λ z. absurd (ne z)) (λ x. x) up)))
    ]
right_stays i j (Udp s d l c) (Icmp k' o' c' n') frag tail b t w v h ch up = absurd ch
right_stays i j (Udp s d l c) OtherIp frag tail b t w v h ch up = absurd ch
right_stays i j (Udp s d l c) Fragment frag tail b t w v h ch up = absurd ch
right_stays i j (Icmp k o c n) (Tcp s' d' m' c' u') frag tail b t w v h ch up = absurd ch
right_stays i j (Icmp k o c n) (Udp s' d' l' c') frag tail b t w v h ch up = absurd ch
right_stays i j (Icmp k o c n) (Icmp k' o' c' n') frag tail b t w v h ch up = icmp_stays i j k o c n k' o' c' n' tail b t w v h.2 ch.0 ch.1 up
right_stays i j (Icmp k o c n) OtherIp frag tail b t w v h ch up = absurd ch
right_stays i j (Icmp k o c n) Fragment frag tail b t w v h ch up = absurd ch
right_stays i j OtherIp (Tcp s' d' m' c' u') frag tail b t w v h ch up = absurd ch
right_stays i j OtherIp (Udp s' d' l' c') frag tail b t w v h ch up = absurd ch
right_stays i j OtherIp (Icmp k' o' c' n') frag tail b t w v h ch up = absurd ch
right_stays i j OtherIp OtherIp frag tail b t w v h ch up = tt
right_stays i j OtherIp Fragment frag tail b t w v h ch up = absurd ch
right_stays i j Fragment (Tcp s' d' m' c' u') frag tail b t w v h ch up = absurd ch
right_stays i j Fragment (Udp s' d' l' c') frag tail b t w v h ch up = absurd ch
right_stays i j Fragment (Icmp k' o' c' n') frag tail b t w v h ch up = absurd ch
right_stays i j Fragment OtherIp frag tail b t w v h ch up = absurd ch
right_stays i j Fragment Fragment frag tail b t w v h ch up = tt

-- ---- headers

-- the words of a header that a rewrite may change
abbrev header_words : Ip4Packet → ℕ
header_words i = i.ttl * 256 + i.proto + address_words i.src.0 + address_words i.dst.0

header_moved : (o a b s t c d x y j k : ℕ) → x ≡ o + (a + s) → y ≡ o + (b + t) → t + b + 65535 * j ≡ s + a + 65535 * k → y + 65535 * j ≡ x + 65535 * k
header_moved o a b s t c d x y j k p q e = omega (arith, p, q, e)

header_shape : (o tp s sw dw : ℕ) → o + (tp + s + sw + dw) ≡ o + (tp + sw + dw + s)
header_shape o tp s sw dw = omega arith

-- the header's sum stays right
header_stays : (i j : Ip4Packet) → IsIp4Within i → IsIp4Within j → others j ≡ others i → length j.options ≤ 40 → IsChange i.sum (header_words i) (header_words j) j.sum
    → ones_sum (words (ip4_header i)) ≡ 65535 → ones_sum (words (ip4_header j)) ≡ 65535
header_stays i j hi hj same few ch up =
    let px = plain_header i hi ∙ header_shape (others i) (i.ttl * 256 + i.proto) i.sum (address_words i.src.0) (address_words i.dst.0) in
    let py = plain_header j hj ∙ header_shape (others j) (j.ttl * 256 + j.proto) j.sum (address_words j.src.0) (address_words j.dst.0) ∙ ap (λ (n : ℕ). n + (header_words j + j.sum)) same in
    let some : 0 < others i = omega (arith, same, header_some j few) in
    stays (ip4_header i) (ip4_header j) ch.more ch.less (header_bytes i hi) (header_bytes j hj) (omega (arith, py, some)) (header_moved (others i) (header_words i) (header_words j) i.sum j.sum 0 0 (plain (ip4_header i)) (plain (ip4_header j)) ch.more ch.less px py ch.same) up

-- a step from one packet to another
pub record IsStep (i j : Ip4Packet) (tail : List ℕ) : Type 0 where
  pub whole : IsWholeIp4 j tail
  pub header : length j.options ≡ length i.options
  pub part : length (part_bytes j.part) ≡ length (part_bytes i.part)
  pub right : IsRightPart (pseudo_header i) (segment i tail) i.part → IsRightPart (pseudo_header j) (segment j tail) j.part

pub then_step : (i j k : Ip4Packet) (tail : List ℕ) → IsStep i j tail → IsStep j k tail → IsStep i k tail
then_step i j k tail a b = record { whole = b.whole; header = b.header ∙ a.header; part = b.part ∙ a.part; right = λ r. b.right (a.right r) }

within_with : (i : Ip4Packet) (ttl sum : ℕ) (src dst : addresses.Ip4) (part : Part) → IsIp4Within i → ttl < 256 → sum ≤ 65535 → src.0 < 2 ^ 32 → dst.0 < 2 ^ 32 → IsPartWithin part → IsIp4Within (record i { ttl = ttl; sum = sum; src = src; dst = dst; part = part })
within_with i ttl sum src dst part h a b c d e = record { tos = h.tos; total = h.total; ident = h.ident; frag = h.frag; ttl = a; proto = h.proto; sum = omega (arith, b); src = c; dst = d; options = h.options; part = e }

-- whatever a rewrite changes
step : (i : Ip4Packet) (ttl sum : ℕ) (src dst : addresses.Ip4) (part : Part) (tail : List ℕ) → IsBytes tail → IsWholeIp4 i tail → ttl < 256 → src.0 < 2 ^ 32 → dst.0 < 2 ^ 32 → IsLike i.part part
    → (let j = record i { ttl = ttl; sum = sum; src = src; dst = dst; part = part } in IsChange i.sum (header_words i) (header_words j) sum)
    → (let j = record i { ttl = ttl; sum = sum; src = src; dst = dst; part = part } in IsChanged (front_words i) (front_words j) i.part part)
    → IsStep i (record i { ttl = ttl; sum = sum; src = src; dst = dst; part = part }) tail
step i ttl sum src dst part tail t h a c d like ch pc =
    let j : Ip4Packet = record i { ttl = ttl; sum = sum; src = src; dst = dst; part = part } in
    let w : IsIp4Within j = within_with i ttl sum src dst part h.within a ch.max c d like.within in
    record {
      whole = record {
        within = w;
        words_of_four = h.words_of_four;
        few_options = h.few_options;
        has_header = h.has_header;
        is_there = omega (arith, h.is_there, like.len);
        sums_up = header_stays i j h.within w refl h.few_options ch h.sums_up;
        named = like.named i.frag i.proto (i.total - (20 + length i.options)) h.named;
      };
      header = refl;
      part = like.len;
      right = right_stays i j i.part part i.frag tail (record { i_within = h.within; j_within = w; proto = refl; len = refl }) t h.within.part like.within h.named pc;
    }

same_like : (p : Part) → IsPartWithin p → IsLike p p
same_like p w = record { len = refl; named = λ frag proto len h. h; within = w }

same_changed : (a : ℕ) (p : Part) → IsPartWithin p → IsChanged a a p p
same_changed a (Tcp s d m c u) w = (refl, refl, no_change c (a + (s + d)) (omega (arith, w.4)))
same_changed a (Udp s d l c) w = (refl, λ z. z, λ pos. no_change c (a + (s + d)) (omega (arith, w.3)))
same_changed a (Icmp k o c n) w = (no_change c (k * 256 + o + n) (omega (arith, w.2)), inr (refl, refl))
same_changed a OtherIp w = tt
same_changed a Fragment w = tt

turn_src : (t a b d : ℕ) → t + b + d + a ≡ t + a + d + b
turn_src t a b d = omega arith

turn_dst : (t a b : ℕ) → t + b + a ≡ t + a + b
turn_dst t a b = omega arith

turn_ttl : (a b s d : ℕ) → b + s + d + a ≡ a + s + d + b
turn_ttl a b s d = omega arith

turned_front : (s a b r : ℕ) (p q : Part) → IsChanged (a + (s + r)) (b + (s + r)) p q → IsChanged (s + (a + r)) (s + (b + r)) p q
turned_front s a b r p q h =
    let e : a + (s + r) ≡ s + (a + r) = omega arith in
    let f : b + (s + r) ≡ s + (b + r) = omega arith in
    subst (λ (n : ℕ). IsChanged (s + (a + r)) n p q) f (subst (λ (n : ℕ). IsChanged n (b + (s + r)) p q) e h)

pub src_step : (ip : addresses.Ip4) (i : Ip4Packet) (tail : List ℕ) → ip.0 < 2 ^ 32 → IsBytes tail → IsWholeIp4 i tail → IsStep i (ip4_with_src ip i) tail
src_step ip i tail a t h =
    let w = h.within in
    step i i.ttl (over_address updated i.sum i.src.0 ip.0) ip i.dst (part_over_address i.src.0 ip.0 i.part) tail t h w.ttl a w.dst (like_over i.src.0 ip.0 i.part w.src a w.part)
    (beside i.sum (address_words i.src.0) (address_words ip.0) (over_address updated i.sum i.src.0 ip.0) (header_words i) (i.ttl * 256 + i.proto + address_words ip.0 + address_words i.dst.0) (over_change i.sum i.src.0 ip.0 (omega (arith, w.sum)) w.src a) (turn_src (i.ttl * 256 + i.proto) (address_words i.src.0) (address_words ip.0) (address_words i.dst.0)))
    (changed_over i.src.0 ip.0 (address_words i.dst.0 + (i.proto + segment_len i)) i.part w.src a w.part)

pub dst_step : (ip : addresses.Ip4) (i : Ip4Packet) (tail : List ℕ) → ip.0 < 2 ^ 32 → IsBytes tail → IsWholeIp4 i tail → IsStep i (ip4_with_dst ip i) tail
dst_step ip i tail a t h =
    let w = h.within in
    step i i.ttl (over_address updated i.sum i.dst.0 ip.0) i.src ip (part_over_address i.dst.0 ip.0 i.part) tail t h w.ttl w.src a (like_over i.dst.0 ip.0 i.part w.dst a w.part)
    (beside i.sum (address_words i.dst.0) (address_words ip.0) (over_address updated i.sum i.dst.0 ip.0) (header_words i) (i.ttl * 256 + i.proto + address_words i.src.0 + address_words ip.0) (over_change i.sum i.dst.0 ip.0 (omega (arith, w.sum)) w.dst a) (turn_dst (i.ttl * 256 + i.proto + address_words i.src.0) (address_words i.dst.0) (address_words ip.0)))
    (turned_front (address_words i.src.0) (address_words i.dst.0) (address_words ip.0) (i.proto + segment_len i) i.part (part_over_address i.dst.0 ip.0 i.part) (changed_over i.dst.0 ip.0 (address_words i.src.0 + (i.proto + segment_len i)) i.part w.dst a w.part))

pub ttl_step : (ttl : ℕ) (i : Ip4Packet) (tail : List ℕ) → ttl < 256 → IsBytes tail → IsWholeIp4 i tail → IsStep i (ip4_with_ttl ttl i) tail
ttl_step ttl i tail a t h =
    let w = h.within in
    let new = updated i.sum (i.ttl * 256 + i.proto) (ttl * 256 + i.proto) in
    step i ttl new i.src i.dst i.part tail t h a w.src w.dst (same_like i.part w.part)
    (beside i.sum (i.ttl * 256 + i.proto) (ttl * 256 + i.proto) new (header_words i) (ttl * 256 + i.proto + address_words i.src.0 + address_words i.dst.0) (updated_change i.sum (i.ttl * 256 + i.proto) (ttl * 256 + i.proto) (omega (arith, w.sum)) (omega (arith, w.ttl, w.proto)) (omega (arith, a, w.proto))) (turn_ttl (i.ttl * 256 + i.proto) (ttl * 256 + i.proto) (address_words i.src.0) (address_words i.dst.0)))
    (same_changed (front_words i) i.part w.part)

pub part_step : (p : Part) (i : Ip4Packet) (tail : List ℕ) → IsBytes tail → IsWholeIp4 i tail → IsLike i.part p → IsChanged (front_words i) (front_words i) i.part p → IsStep i (record i { part = p }) tail
part_step p i tail t h like ch = let w = h.within in step i i.ttl i.sum i.src i.dst p tail t h w.ttl w.src w.dst like (no_change i.sum (header_words i) (omega (arith, w.sum))) ch

pub ports_step : (src dst : ℕ) (i : Ip4Packet) (tail : List ℕ) → src < 2 ^ 16 → dst < 2 ^ 16 → IsBytes tail → IsWholeIp4 i tail → IsStep i (ip4_with_ports src dst i) tail
ports_step src dst i tail a b t h = part_step (part_with_ports src dst i.part) i tail t h (like_ports src dst i.part a b h.within.part) (changed_ports (front_words i) src dst i.part a b h.within.part)

pub reply_step : (i : Ip4Packet) (tail : List ℕ) → IsBytes tail → IsWholeIp4 i tail → IsStep i (ip4_as_reply i) tail
reply_step i tail t h =
    let one = src_step i.dst i tail h.within.dst t h in
    let two' = dst_step i.src (ip4_with_src i.dst i) tail h.within.src t one.whole in
    let three = ttl_step 255 (ip4_swapped i) tail (omega arith) t two'.whole in
    let j = ip4_with_ttl 255 (ip4_swapped i) in
    let four' = part_step (part_as_reply j.part) j tail t three.whole (like_reply j.part three.whole.within.part) (changed_reply (front_words j) j.part three.whole.within.part) in
    then_step i (ip4_with_src i.dst i) (ip4_as_reply i) tail one (then_step (ip4_with_src i.dst i) (ip4_swapped i) (ip4_as_reply i) tail two' (then_step (ip4_swapped i) j (ip4_as_reply i) tail three four'))

-- ---- packets

-- a step of its IPv4 packet, whatever it is
abbrev pub Steps : (Ip4Packet → Ip4Packet) → Body → List ℕ → Type 0
Steps f (Arp a) tail = Unit {0}
Steps f (Ip4 i) tail = IsStep i (f i) tail
Steps f (Other t) tail = Unit {0}

abbrev made : Mac → Mac → Body → List ℕ → Packet
made dst src body tail = record { dst = dst; src = src; body = body; tail = tail }

all_len : (dst src : Mac) (b : Body) (tail : List ℕ) → length (frame_of (made dst src b tail)) ≡ 12 + (length (body_bytes b) + length tail)
unfolding frame_of
all_len dst src b tail = omega (arith, length-append (body_bytes b) tail)

made_len : (dst src : Mac) (b c : Body) (tail : List ℕ) → length (body_bytes b) ≡ length (body_bytes c) → length (frame_of (made dst src b tail)) ≡ length (frame_of (made dst src c tail))
made_len dst src b c tail e = omega (arith, all_len dst src b tail, all_len dst src c tail, e)

step_len : (i j : Ip4Packet) (tail : List ℕ) → IsStep i j tail → length (body_bytes (Ip4 j)) ≡ length (body_bytes (Ip4 i))
step_len i j tail s =
    ap (λ (n : ℕ). suc (suc n)) (length-append (ip4_header j) (part_bytes j.part) ∙ omega (arith, length-ip4_header i, length-ip4_header j, s.header, s.part) ∙ sym (length-append (ip4_header i) (part_bytes i.part)))

whole_made : (f : Ip4Packet → Ip4Packet) (dst src : Mac) (b : Body) (tail : List ℕ) → IsWhole (made dst src b tail) → Steps f b tail → IsWhole (with_ip4 f (made dst src b tail))
whole_made f dst src (Arp a) tail h s = h
whole_made f dst src (Other t) tail h s = h
whole_made f dst src (Ip4 i) tail h s =
    let len = made_len dst src (Ip4 (f i)) (Ip4 i) tail (step_len i (f i) tail s) in
    record { tail = h.tail; long = omega (arith, h.long, len); short = omega (arith, h.short, len); body = s.whole }

right_made : (f : Ip4Packet → Ip4Packet) (dst src : Mac) (b : Body) (tail : List ℕ) → Steps f b tail → HasRightSum (made dst src b tail) → HasRightSum (with_ip4 f (made dst src b tail))
unfolding HasRightSum
right_made f dst src (Arp a) tail s r = r
right_made f dst src (Other t) tail s r = r
right_made f dst src (Ip4 i) tail s r = s.right r

pub whole_with : (f : Ip4Packet → Ip4Packet) (p : Packet) → IsWhole p → Steps f p.body p.tail → IsWhole (with_ip4 f p)
whole_with f p h s = whole_made f p.dst p.src p.body p.tail h s

pub right_with : (f : Ip4Packet → Ip4Packet) (p : Packet) → Steps f p.body p.tail → HasRightSum p → HasRightSum (with_ip4 f p)
right_with f p s r = right_made f p.dst p.src p.body p.tail s r

steps : (f : Ip4Packet → Ip4Packet) (b : Body) (tail : List ℕ) → IsWholeBody b tail → ((i : Ip4Packet) → IsWholeIp4 i tail → IsStep i (f i) tail) → Steps f b tail
steps f (Arp a) tail h s = tt
steps f (Ip4 i) tail h s = s i h
steps f (Other t) tail h s = tt

pub src_steps : (ip : addresses.Ip4) (p : Packet) → ip.0 < 2 ^ 32 → IsWhole p → Steps (ip4_with_src ip) p.body p.tail
src_steps ip p a h = steps (ip4_with_src ip) p.body p.tail h.body (λ i w. src_step ip i p.tail a (all_bytes p.tail h.tail) w)

pub dst_steps : (ip : addresses.Ip4) (p : Packet) → ip.0 < 2 ^ 32 → IsWhole p → Steps (ip4_with_dst ip) p.body p.tail
dst_steps ip p a h = steps (ip4_with_dst ip) p.body p.tail h.body (λ i w. dst_step ip i p.tail a (all_bytes p.tail h.tail) w)

pub ttl_steps : (p : Packet) → IsWhole p → Steps ip4_dec_ttl p.body p.tail
ttl_steps p h = steps ip4_dec_ttl p.body p.tail h.body (λ i w. ttl_step (i.ttl - 1) i p.tail (omega (arith, w.within.ttl)) (all_bytes p.tail h.tail) w)

pub ports_steps : (src dst : ℕ) (p : Packet) → src < 2 ^ 16 → dst < 2 ^ 16 → IsWhole p → Steps (ip4_with_ports src dst) p.body p.tail
ports_steps src dst p a b h = steps (ip4_with_ports src dst) p.body p.tail h.body (λ i w. ports_step src dst i p.tail a b (all_bytes p.tail h.tail) w)

pub reply_steps : (p : Packet) → IsWhole p → Steps ip4_as_reply p.body p.tail
reply_steps p h = steps ip4_as_reply p.body p.tail h.body (λ i w. reply_step i p.tail (all_bytes p.tail h.tail) w)

-- ---- ARP

arp_len : (a : records.Arp) → length (body_bytes (Arp a)) ≡ 30
arp_len a = refl

arp_made : (mac : Mac) (ip : addresses.Ip4) (dst src : Mac) (b : Body) (tail : List ℕ) → ip.0 < 2 ^ 32 → IsArp b → IsWhole (made dst src b tail) → IsWhole (with_arp_reply mac ip (made dst src b tail))
arp_made mac ip dst src (Arp a) tail p is h =
    let new : records.Arp = record { op = 2; sha = mac; spa = ip; tha = a.sha; tpa = a.spa } in
    let w : IsWholeArp new = record { op = omega arith; spa = p; tpa = h.body.spa } in
    let x = all_len src mac (Arp new) tail in
    let y = all_len dst src (Arp a) tail in
    let len : length (frame_of (made src mac (Arp new) tail)) ≡ length (frame_of (made dst src (Arp a) tail)) = omega (arith, x, y, arp_len new, arp_len a) in
    record { tail = h.tail; long = omega (arith, h.long, len); short = omega (arith, h.short, len); body = w }
arp_made mac ip dst src (Ip4 i) tail p is h = absurd is
arp_made mac ip dst src (Other t) tail p is h = absurd is

pub arp_whole : (mac : Mac) (ip : addresses.Ip4) (p : Packet) → ip.0 < 2 ^ 32 → IsArp p.body → IsWhole p → IsWhole (with_arp_reply mac ip p)
arp_whole mac ip p a is h = arp_made mac ip p.dst p.src p.body p.tail a is h
