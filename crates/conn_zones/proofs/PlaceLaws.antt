-- The places of zones, and the numbers of a chassis.
use Rattle.std.specs.Prelude.{◌≡◌, ◌≢◌, ◌≤◌, ◌+◌, ◌⊎◌, ℕ, Bool, true, false, cond, List, [], ◌∷◌, ◌++◌, Option, Some, None, IsSome, length, filter, refl}
use mathlib.Core.Path.{sym, ap, ◌∙◌}
use mathlib.Core.Logic.{inl, inr}
use native.Mathlib.Omega.{arith}
use Rattle.std.specs.Cmp.Lexicographic.{slice_cmp}
use Rattle.std.specs.Ordering.{nat_cmp, match_ordering}
use Rattle.std.specs.declared.cmp.Ordering.{Ordering}
use Rattle.std.specs.declared.cmp.Ordering.TheVariants.{Less, Equal, Greater}
use Rattle.std.proofs.lemmas.Bool.{cond-true}
use Rattle.std.proofs.lemmas.Option.{none-some, same_Some}
use Rattle.std.proofs.lemmas.List.{length-append, length-map}
use Rattle.ovn_base.specs.declared.name.Name.{Name}
use Rattle.ovn_base.specs.lists.Among.{Among}
use Rattle.ovn_base.specs.names.ByName.{at, put, IsByName}
use Rattle.ovn_base.specs.names.SameName.{same_name, bytes_decides}
use Rattle.ovn_base.proofs.AmongLaws.{among_append, among_left, among_right, among_map, map_among, among_filter, filter_among}
use Rattle.ovn_base.proofs.ByNameLaws.{at_among, among_at, put_there, put_other, put_sorted, one_or_two}
use Rattle.conn_zones.specs.declared.numbers.ZonePlace.{ZonePlace}
use Rattle.conn_zones.specs.declared.numbers.ZoneUse.{ZoneUse}
use Rattle.conn_zones.specs.declared.numbers.ZoneUse.TheVariants.{Port, Dnat, Snat}
use Rattle.conn_zones.specs.Zoning.{GivenNumbers, place_for, number_at, number_on, AreInNameOrder}
use Rattle.conn_zones.specs.Giving.{put_place, numbers_in, numbers_of}

pub own_name : (c : Name) → same_name c c ≡ true
own_name c = (bytes_decides c c).1 refl

pub one_name : (b c : Name) → same_name b c ≡ true → b ≡ c
one_name b c h = (bytes_decides b c).0 h

pub some_value : {X : Type 0} (o : Option X) → IsSome o → (v : X) × (o ≡ Some v)
some_value None h = cc
some_value (Some v) h = (v, refl)

pub has_value : {X : Type 0} (o : Option X) (v : X) → o ≡ Some v → IsSome o
has_value o v h = search h

-- ---- zones

abbrev pub name_in : ZoneUse → Name
name_in (Port q) = q
name_in (Dnat q) = q
name_in (Snat q) = q

-- one zone or two
pub one_zone_or_two : (y z : ZoneUse) → (y ≡ z) ⊎ (y ≢ z)
one_zone_or_two (Port a) (Port b) = elim (one_or_two a b) [ inl same ↦ inl (ap Port same) | inr apart ↦ inr (λ h. apart (ap name_in h)) ]
one_zone_or_two (Dnat a) (Dnat b) = elim (one_or_two a b) [ inl same ↦ inl (ap Dnat same) | inr apart ↦ inr (λ h. apart (ap name_in h)) ]
one_zone_or_two (Snat a) (Snat b) = elim (one_or_two a b) [ inl same ↦ inl (ap Snat same) | inr apart ↦ inr (λ h. apart (ap name_in h)) ]
one_zone_or_two (Port a) (Dnat b) = inr (λ h. cc)
one_zone_or_two (Port a) (Snat b) = inr (λ h. cc)
one_zone_or_two (Dnat a) (Port b) = inr (λ h. cc)
one_zone_or_two (Dnat a) (Snat b) = inr (λ h. cc)
one_zone_or_two (Snat a) (Port b) = inr (λ h. cc)
one_zone_or_two (Snat a) (Dnat b) = inr (λ h. cc)

-- ---- places and numbers

abbrev pub placed : Name → ℕ → ZonePlace
placed chassis n = record { chassis = chassis; number = n }

pub number_placed : (ns : GivenNumbers) (c : Name) (z : ZoneUse) (n : ℕ) → place_for ns z ≡ Some (placed c n) → number_on ns c z ≡ Some n
number_placed ns c z n h = ap (λ o. number_at c o) h ∙ cond-true (same_name c c) (Some n) None (own_name c)

pub placed_number : (ns : GivenNumbers) (c : Name) (z : ZoneUse) (n : ℕ) → number_on ns c z ≡ Some n → place_for ns z ≡ Some (placed c n)
placed_number ns c z n h = by (place_for ns z) refl h
  where
    chosen : (p : ZonePlace) (b : Bool) → same_name p.chassis c ≡ b → cond b (Some p.number) None ≡ Some n → p ≡ placed c n
    chosen p true is g =
        let chassis = one_name p.chassis c is in
        let number = same_Some p.number n g in
        λ i. record { chassis = chassis i; number = number i }
    chosen p false is g = absurd (none-some n g)

    by : (o : Option ZonePlace) → place_for ns z ≡ o → number_at c o ≡ Some n → place_for ns z ≡ Some (placed c n)
    by None is g = absurd (none-some n g)
    by (Some p) is g = is ∙ ap (λ q. Some q) (chosen p (same_name p.chassis c) refl g)

-- ---- one place more

pub put_same : (ns : GivenNumbers) (z : ZoneUse) (p : ZonePlace) → place_for (put_place ns z p) z ≡ Some p
put_same ns (Port q) p = put_there ns.ports q p
put_same ns (Dnat q) p = put_there ns.dnat q p
put_same ns (Snat q) p = put_there ns.snat q p

pub put_apart : (ns : GivenNumbers) (z : ZoneUse) (p : ZonePlace) (y : ZoneUse) → y ≢ z → place_for (put_place ns z p) y ≡ place_for ns y
put_apart ns (Port a) p (Port b) apart = put_other ns.ports a p b (λ h. apart (ap Port h))
put_apart ns (Dnat a) p (Dnat b) apart = put_other ns.dnat a p b (λ h. apart (ap Dnat h))
put_apart ns (Snat a) p (Snat b) apart = put_other ns.snat a p b (λ h. apart (ap Snat h))
put_apart ns (Port a) p (Dnat b) apart = refl
put_apart ns (Port a) p (Snat b) apart = refl
put_apart ns (Dnat a) p (Port b) apart = refl
put_apart ns (Dnat a) p (Snat b) apart = refl
put_apart ns (Snat a) p (Port b) apart = refl
put_apart ns (Snat a) p (Dnat b) apart = refl

pub put_in_order : (ns : GivenNumbers) (z : ZoneUse) (p : ZonePlace) → AreInNameOrder ns → AreInNameOrder (put_place ns z p)
put_in_order ns (Port q) p s = record { ports = put_sorted ns.ports q p s.ports; dnat = s.dnat; snat = s.snat }
put_in_order ns (Dnat q) p s = record { ports = s.ports; dnat = put_sorted ns.dnat q p s.dnat; snat = s.snat }
put_in_order ns (Snat q) p s = record { ports = s.ports; dnat = s.dnat; snat = put_sorted ns.snat q p s.snat }

-- ---- the numbers of a chassis

number_in : (es : List (Name × ZonePlace)) → IsByName es → (c : Name) (m : ℕ) → Among m (numbers_in es c) → (q : Name) × (at es q ≡ Some (placed c m))
number_in es s c m a =
    let r = map_among (λ (e : Name × ZonePlace). e.1.number) m (filter (λ (e : Name × ZonePlace). same_name e.1.chassis c) es) a in
    let k = filter_among (λ (e : Name × ZonePlace). same_name e.1.chassis c) r.0 es r.1 in
    let chassis = one_name r.0.1.chassis c k.1 in
    let number = sym r.2 in
    let place : r.0.1 ≡ placed c m = λ i. record { chassis = chassis i; number = number i } in
    (r.0.0, among_at r.0.0 r.0.1 es s k.0 ∙ ap (λ p. Some p) place)

in_numbers : (es : List (Name × ZonePlace)) (c q : Name) (m : ℕ) → at es q ≡ Some (placed c m) → Among m (numbers_in es c)
in_numbers es c q m h =
    among_map (λ (e : Name × ZonePlace). e.1.number) (q, placed c m) (filter (λ (e : Name × ZonePlace). same_name e.1.chassis c) es)
    (among_filter (λ (e : Name × ZonePlace). same_name e.1.chassis c) (q, placed c m) es (at_among es q (placed c m) h) (own_name c))

-- are those of its zones
pub number_used : (ns : GivenNumbers) → AreInNameOrder ns → (c : Name) (m : ℕ) → Among m (numbers_of ns c) → (z : ZoneUse) × (number_on ns c z ≡ Some m)
number_used ns s c m a = elim (among_append m (numbers_in ns.ports c ++ numbers_in ns.dnat c) (numbers_in ns.snat c) a) [
  | inl b ↦ elim (among_append m (numbers_in ns.ports c) (numbers_in ns.dnat c) b) [
    | inl p ↦ (let r = number_in ns.ports s.ports c m p in (Port r.0, number_placed ns c (Port r.0) m r.1))
    | inr d ↦ (let r = number_in ns.dnat s.dnat c m d in (Dnat r.0, number_placed ns c (Dnat r.0) m r.1))
  ]
  | inr e ↦ (let r = number_in ns.snat s.snat c m e in (Snat r.0, number_placed ns c (Snat r.0) m r.1))
]

pub used_number : (ns : GivenNumbers) (c : Name) (z : ZoneUse) (m : ℕ) → number_on ns c z ≡ Some m → Among m (numbers_of ns c)
used_number ns c (Port q) m h =
    among_left m (numbers_in ns.ports c ++ numbers_in ns.dnat c) (numbers_in ns.snat c)
    (among_left m (numbers_in ns.ports c) (numbers_in ns.dnat c) (in_numbers ns.ports c q m (placed_number ns c (Port q) m h)))
used_number ns c (Dnat q) m h =
    among_left m (numbers_in ns.ports c ++ numbers_in ns.dnat c) (numbers_in ns.snat c)
    (among_right m (numbers_in ns.ports c) (numbers_in ns.dnat c) (in_numbers ns.dnat c q m (placed_number ns c (Dnat q) m h)))
used_number ns c (Snat q) m h =
    among_right m (numbers_in ns.ports c ++ numbers_in ns.dnat c) (numbers_in ns.snat c) (in_numbers ns.snat c q m (placed_number ns c (Snat q) m h))

-- ---- how many there are

abbrev pub one_if : Bool → ℕ
one_if true = 1
one_if false = 0

-- among those of one chassis
pub size_more : {X : Type 0} (test : X → Bool) (x : X) (xs : List X) → length (filter test (x ∷ xs)) ≡ one_if (test x) + length (filter test xs)
size_more test x xs = by (test x)
  where
    by : (b : Bool) → length (cond b (x ∷ filter test xs) (filter test xs)) ≡ one_if b + length (filter test xs)
    by true = omega arith
    by false = omega arith

module _ (c : Name) where
  abbrev of_it : Name × ZonePlace → Bool
  of_it e = same_name e.1.chassis c

  size_at : (k : Name) (v : ZonePlace) (o : Ordering) (e : Name × ZonePlace) (es : List (Name × ZonePlace)) → length (filter of_it (put es k v)) ≤ length (filter of_it ((k, v) ∷ es))
      → length (filter of_it (match_ordering o ((k, v) ∷ e ∷ es) ((e.0, v) ∷ es) (e ∷ put es k v))) ≤ length (filter of_it ((k, v) ∷ e ∷ es))
  size_at k v Less e es later = omega arith
  size_at k v Equal e es later =
      let new : length (filter of_it ((e.0, v) ∷ es)) ≡ one_if (of_it (k, v)) + length (filter of_it es) = size_more of_it (e.0, v) es in
      let all = size_more of_it (k, v) (e ∷ es) in
      let old = size_more of_it e es in
      omega (arith, new, all, old)
  size_at k v Greater e es later =
      let new = size_more of_it e (put es k v) in
      let all = size_more of_it (k, v) (e ∷ es) in
      let old = size_more of_it e es in
      let one = size_more of_it (k, v) es in
      omega (arith, new, all, old, one, later)

  -- one place more makes at most one number more
  size_put : (es : List (Name × ZonePlace)) (k : Name) (v : ZonePlace) → length (filter of_it (put es k v)) ≤ length (filter of_it ((k, v) ∷ es))
  size_put [] k v = omega arith
  size_put (e ∷ es) k v = size_at k v (slice_cmp nat_cmp k e.0) e es (size_put es k v)

  length_in : (es : List (Name × ZonePlace)) → length (numbers_in es c) ≡ length (filter of_it es)
  length_in es = length-map (filter of_it es) (λ (e : Name × ZonePlace). e.1.number)

  numbers_put : (es : List (Name × ZonePlace)) (k : Name) (v : ZonePlace) → length (numbers_in (put es k v) c) ≤ one_if (same_name v.chassis c) + length (numbers_in es c)
  numbers_put es k v =
      let new = length_in (put es k v) in
      let old = length_in es in
      let more = size_put es k v in
      let one = size_more of_it (k, v) es in
      omega (arith, new, old, more, one)

  length_of : (ns : GivenNumbers) → length (numbers_of ns c) ≡ length (numbers_in ns.ports c) + length (numbers_in ns.dnat c) + length (numbers_in ns.snat c)
  length_of ns = length-append (numbers_in ns.ports c ++ numbers_in ns.dnat c) (numbers_in ns.snat c) ∙ ap (λ n. n + length (numbers_in ns.snat c)) (length-append (numbers_in ns.ports c) (numbers_in ns.dnat c))

  pub few_more : (ns : GivenNumbers) (z : ZoneUse) (p : ZonePlace) → length (numbers_of (put_place ns z p) c) ≤ one_if (same_name p.chassis c) + length (numbers_of ns c)
  few_more ns (Port q) p = let a = length_of (put_place ns (Port q) p) in let b = length_of ns in let m = numbers_put ns.ports q p in omega (arith, a, b, m)
  few_more ns (Dnat q) p = let a = length_of (put_place ns (Dnat q) p) in let b = length_of ns in let m = numbers_put ns.dnat q p in omega (arith, a, b, m)
  few_more ns (Snat q) p = let a = length_of (put_place ns (Snat q) p) in let b = length_of ns in let m = numbers_put ns.snat q p in omega (arith, a, b, m)
