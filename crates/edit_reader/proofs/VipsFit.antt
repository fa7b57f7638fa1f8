-- The vips that an object gives stand in order of address and port, each once.
use Rattle.std.specs.Prelude.{◌≡◌, ◌≢◌, ◌≤◌, ◌+◌, ◌++◌, ◌==◌, not, nat_lt, ℕ, suc, Bool, true, false, cond, List, [], ◌∷◌, length, map, unwrap_or, Some, None, refl}
use Rattle.std.specs.Cmp.{IsTotalOrder, then_total, on_total, nat_cmp_total}
use Rattle.std.specs.Fmt.{decimal}
use Rattle.std.specs.Int.{from_be_bytes}
use Rattle.std.specs.List.{AllByRecursion, insert, position_or_len, slice_split}
use Rattle.std.specs.List.Sorted.{IsStrictlySortedBy}
use Rattle.std.specs.Ordering.{is_lt, nat_cmp, ordering_reverse, ordering_then}
use Rattle.std.specs.declared.cmp.Ordering.{Ordering}
use Rattle.std.specs.declared.cmp.Ordering.TheVariants.{Less, Equal, Greater}
use mir.Syntax.{w32}
use Rattle.std.proofs.Common.{ap, ◌∙◌, sym, subst, arith}
use Rattle.std.proofs.lemmas.Bool.{eqb-true, ltb-false}
use Rattle.std.proofs.lemmas.List.Sums.{prefix_len-le-length}
use Rattle.ovn_base.specs.declared.address.Backend.{Backend}
use Rattle.ovn_base.specs.declared.address.Ip4.{Ip4}
use Rattle.nb_records.specs.Grammar.{IsBackend, IsVip, AreVips}
use Rattle.nb_records.specs.Network.{backend_cmp}
use Rattle.nb_records.specs.declared.balancer.Vip.{Vip}
use Rattle.edit_reader.specs.Grammars.{spelled_backend}
use Rattle.edit_reader.specs.Vips.{spelled_backends, vip_of, place_among, placed, vips_by}
use Rattle.edit_reader.proofs.ReadSteps.{some_is, and_then_some}
use Rattle.edit_reader.proofs.TextsFit.{IsDotted, octets_text, backend_parts, backend_fits, each_fits}

-- ---- an address and port has one text

same_ip_text : (s t : List ℕ) (x y : Ip4) → x.0 ≡ y.0 → IsDotted s x → IsDotted t y → s ≡ t
same_ip_text s t x y same p q =
    let whole : from_be_bytes w32 (p.a ∷ p.b ∷ p.c ∷ p.d ∷ []) ≡ from_be_bytes w32 (q.a ∷ q.b ∷ q.c ∷ q.d ∷ []) = sym p.value ∙ same ∙ q.value in
    let pa = p.small_a in
    let pb = p.small_b in
    let pc = p.small_c in
    let pd = p.small_d in
    let qa = q.small_a in
    let qb = q.small_b in
    let qc = q.small_c in
    let qd = q.small_d in
    let a : p.a ≡ q.a = omega (arith, whole, pa, pb, pc, pd, qa, qb, qc, qd) in
    let b : p.b ≡ q.b = omega (arith, whole, pa, pb, pc, pd, qa, qb, qc, qd) in
    let c : p.c ≡ q.c = omega (arith, whole, pa, pb, pc, pd, qa, qb, qc, qd) in
    let d : p.d ≡ q.d = omega (arith, whole, pa, pb, pc, pd, qa, qb, qc, qd) in
    p.printed ∙ (λ i. octets_text (a i) (b i) (c i) (d i)) ∙ sym q.printed

pub one_text : (s t : List ℕ) (x y : Backend) → spelled_backend s ≡ Some x → spelled_backend t ≡ Some y → backend_cmp x y ≡ Equal → s ≡ t
one_text s t x y p q tie =
    let a = backend_parts s x p in
    let b = backend_parts t y q in
    let both = both_equal (nat_cmp x.ip.0 y.ip.0) (nat_cmp x.port y.port) tie in
    let ip = same_ip_text a.ip_text b.ip_text x.ip y.ip (same_number x.ip.0 y.ip.0 both.0) a.ip b.ip in
    let port = same_number x.port y.port both.1 in
    a.printed ∙ (λ i. ip i ++ 58 ∷ decimal (port i)) ∙ sym b.printed
  where
    both_equal : (o u : Ordering) → ordering_then o u ≡ Equal → (o ≡ Equal) × (u ≡ Equal)
    both_equal Less u e = absurd cc
    both_equal Equal u e = (refl, e)
    both_equal Greater u e = absurd cc

    same_number : (m n : ℕ) → nat_cmp m n ≡ Equal → m ≡ n
    same_number m n e = by (nat_lt m n) (m == n) refl e
      where
        by : (less same : Bool) → (m == n) ≡ same → cond less Less (cond same Equal Greater) ≡ Equal → m ≡ n
        by true same h g = absurd cc
        by false true h g = eqb-true m n h
        by false false h g = absurd cc

-- ---- a place in order

backend_total : IsTotalOrder backend_cmp
backend_total = then_total (on_total (λ b. b.ip.0) nat_cmp_total) (on_total (λ b. b.port) nat_cmp_total)

place_is : (vip : Vip) (vips : List Vip) → place_among vip vips ≡ position_or_len (λ v. is_lt (backend_cmp vip.at v.at)) vips
place_is vip vips = by (position_or_len (λ v. is_lt (backend_cmp vip.at v.at)) vips) (prefix_len-le-length (λ v. not (is_lt (backend_cmp vip.at v.at))) vips) (nat_lt (position_or_len (λ v. is_lt (backend_cmp vip.at v.at)) vips) (length vips)) refl
  where
    by : (n : ℕ) → n ≤ length vips → (b : Bool) → nat_lt n (length vips) ≡ b → unwrap_or (cond b (Some n) None) (length vips) ≡ n
    by n within true e = refl
    by n within false e = let past = ltb-false n (length vips) e in omega (arith, past, within)

-- it stands before the first that is greater
placed_cons : (vip v : Vip) (vips : List Vip) → placed vip (v ∷ vips) ≡ cond (is_lt (backend_cmp vip.at v.at)) (vip ∷ v ∷ vips) (v ∷ placed vip vips)
placed_cons vip v vips = rw (place_is vip (v ∷ vips), place_is vip vips) (by (is_lt (backend_cmp vip.at v.at)) (position_or_len (λ w. is_lt (backend_cmp vip.at w.at)) vips))
  where
    by : (b : Bool) (n : ℕ) → insert (v ∷ vips) (cond (not b) (1 + n) 0) vip ≡ cond b (vip ∷ v ∷ vips) (v ∷ insert vips n vip)
    by true n = refl
    by false n = let e : 1 + n ≡ suc n = omega arith in rw e refl

module _ (vip : Vip) (P : Vip → Type 0) where
  pub all_placed : (vips : List Vip) → AllByRecursion P vips → P vip → AllByRecursion P (placed vip vips)
  all_placed [] all own = (own, tt)
  all_placed (v ∷ vips) all own = subst (AllByRecursion P) (sym (placed_cons vip v vips)) (by (is_lt (backend_cmp vip.at v.at)) (all_placed vips all.1 own))
    where
      by : (b : Bool) → AllByRecursion P (placed vip vips) → AllByRecursion P (cond b (vip ∷ v ∷ vips) (v ∷ placed vip vips))
      by true rest = (own, all)
      by false rest = (all.0, rest)

abbrev ats : List Vip → List Backend
ats vips = map (λ v. v.at) vips

abbrev Below : Backend → List Vip → Type 0
Below at vips = AllByRecursion (λ v. backend_cmp at v.at ≡ Less) vips

below_ats : (at : Backend) (vips : List Vip) → Below at vips → AllByRecursion (λ b. backend_cmp at b ≡ Less) (ats vips)
below_ats at [] all = tt
below_ats at (v ∷ vips) all = (all.0, below_ats at vips all.1)

ats_below : (at : Backend) (vips : List Vip) → AllByRecursion (λ b. backend_cmp at b ≡ Less) (ats vips) → Below at vips
ats_below at [] all = tt
ats_below at (v ∷ vips) all = (all.0, ats_below at vips all.1)

below_further : (at next : Backend) (vips : List Vip) → backend_cmp at next ≡ Less → Below next vips → Below at vips
below_further at next [] less all = tt
below_further at next (v ∷ vips) less all = (backend_total.trans at next v.at less all.0, below_further at next vips less all.1)

-- no vip of these is at the address and port
abbrev pub NoneAt : Backend → List Vip → Type 0
NoneAt at vips = AllByRecursion (λ v. backend_cmp at v.at ≢ Equal) vips

placed_in_order : (vip : Vip) (vips : List Vip) → NoneAt vip.at vips → IsStrictlySortedBy backend_cmp (ats vips) → IsStrictlySortedBy backend_cmp (ats (placed vip vips))
unfolding IsStrictlySortedBy
placed_in_order vip [] none sorted = (tt, tt)
placed_in_order vip (v ∷ vips) none sorted = subst (λ (l : List Vip). IsStrictlySortedBy backend_cmp (ats l)) (sym (placed_cons vip v vips)) (by (backend_cmp vip.at v.at) refl (placed_in_order vip vips none.1 sorted.1))
  where
    by : (o : Ordering) → backend_cmp vip.at v.at ≡ o → IsStrictlySortedBy backend_cmp (ats (placed vip vips)) → IsStrictlySortedBy backend_cmp (ats (cond (is_lt o) (vip ∷ v ∷ vips) (v ∷ placed vip vips)))
    by Less is rest = ((is, below_ats vip.at vips (below_further vip.at v.at vips is (ats_below v.at vips sorted.0))), sorted)
    by Equal is rest = absurd (none.0 is)
    by Greater is rest =
        let above : backend_cmp v.at vip.at ≡ Less = backend_total.antisymm v.at vip.at ∙ ap ordering_reverse is in
        (below_ats v.at (placed vip vips) (all_placed vip (λ w. backend_cmp v.at w.at ≡ Less) vips (ats_below v.at vips sorted.0) above), rest)

-- ---- the vips of texts

backends_fit : (text : List ℕ) (backends : List Backend) → spelled_backends text ≡ Some backends → AllByRecursion IsBackend backends
unfolding spelled_backends
backends_fit [] backends e = subst (AllByRecursion IsBackend) (some_is [] backends e) tt
backends_fit (b ∷ text) backends e = each_fits IsBackend spelled_backend backend_fits (slice_split (λ c. c == 44) (b ∷ text)) backends e

vip_spelled : (m : List ℕ × List ℕ) (vip : Vip) → vip_of m ≡ Some vip → (spelled_backend m.0 ≡ Some vip.at) × IsVip vip
unfolding vip_of
vip_spelled m vip e =
    let at = and_then_some _ (spelled_backend m.0) vip e in
    let backends = and_then_some _ (spelled_backends m.1) vip at.2 in
    subst (λ (v : Vip). (spelled_backend m.0 ≡ Some v.at) × IsVip v) (some_is (record { at = at.0; backends = backends.0 }) vip backends.2)
    (at.1, (backend_fits m.0 at.0 at.1, backends_fit m.1 backends.0 backends.1))

-- no two of the texts have one name
abbrev pub AreApart : List (List ℕ × List ℕ) → Type 0
AreApart [] = Unit {0}
AreApart (m ∷ ms) = AllByRecursion (λ n. m.0 ≢ n.0) ms × AreApart ms

-- the texts name none of the vips that are placed
abbrev NamesNone : List (List ℕ × List ℕ) → Vip → Type 0
NamesNone ms vip = AllByRecursion (λ m. (x : Backend) → spelled_backend m.0 ≡ Some x → backend_cmp x vip.at ≢ Equal) ms

names_none_later : (m : List ℕ × List ℕ) (ms : List (List ℕ × List ℕ)) (vips : List Vip) → AllByRecursion (NamesNone (m ∷ ms)) vips → AllByRecursion (NamesNone ms) vips
names_none_later m ms [] all = tt
names_none_later m ms (v ∷ vips) all = (all.0.1, names_none_later m ms vips all.1)

none_at : (m : List ℕ × List ℕ) (ms : List (List ℕ × List ℕ)) (x : Backend) → spelled_backend m.0 ≡ Some x → (vips : List Vip) → AllByRecursion (NamesNone (m ∷ ms)) vips → NoneAt x vips
none_at m ms x spelled [] all = tt
none_at m ms x spelled (v ∷ vips) all = (all.0.0 x spelled, none_at m ms x spelled vips all.1)

names_other : (m : List ℕ × List ℕ) (vip : Vip) → spelled_backend m.0 ≡ Some vip.at → (ms : List (List ℕ × List ℕ)) → AllByRecursion (λ n. m.0 ≢ n.0) ms → NamesNone ms vip
names_other m vip spelled [] apart = tt
names_other m vip spelled (n ∷ ms) apart = (λ x is tie. apart.0 (sym (one_text n.0 m.0 x vip.at is spelled tie)), names_other m vip spelled ms apart.1)

vips_by_fit : (ms : List (List ℕ × List ℕ)) (vips found : List Vip) → AreApart ms → AllByRecursion (NamesNone ms) vips → AreVips vips → vips_by vips ms ≡ Some found → AreVips found
vips_by_fit [] vips found apart none are e = subst AreVips (some_is vips found e) are
vips_by_fit (m ∷ ms) vips found apart none are e =
    let vip = and_then_some _ (vip_of m) found e in
    let is = vip_spelled m vip.0 vip.1 in
    vips_by_fit ms (placed vip.0 vips) found apart.1
    (all_placed vip.0 (NamesNone ms) vips (names_none_later m ms vips none) (names_other m vip.0 is.0 ms apart.0))
    (record {
      each = all_placed vip.0 IsVip vips are.each is.1;
      in_order = placed_in_order vip.0 vips (none_at m ms vip.0.at is.0 vips none) are.in_order;
    })
    vip.2

pub vips_fit : (ms : List (List ℕ × List ℕ)) (vips : List Vip) → AreApart ms → vips_by [] ms ≡ Some vips → AreVips vips
unfolding IsStrictlySortedBy
vips_fit ms vips apart e = vips_by_fit ms [] vips apart tt (record { each = tt; in_order = tt }) e
