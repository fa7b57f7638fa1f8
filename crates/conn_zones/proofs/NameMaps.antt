-- What a search among entries in order of name finds, and what a change at that place does.
use Rattle.std.specs.Prelude.{◌≡◌, ◌≢◌, ◌<◌, ◌≤◌, ◌+◌, ℕ, zero, suc, true, false, cond, List, [], ◌∷◌, Some, None, length, take, drop, slice_index_or, slice_set, Result, Ok, Err, IfOk, IfErr, refl}
use mathlib.Core.Path.{sym, ap, subst, ◌∙◌}
use mathlib.Core.Logic.{inl, inr}
use native.Mathlib.Omega.{arith}
use Rattle.std.specs.declared.cmp.Ordering.TheVariants.{Less, Equal, Greater}
use Rattle.std.specs.Ordering.{nat_cmp, is_eq, is_lt, match_ordering, ordering_reverse}
use Rattle.std.specs.BTreeMap.{is_at}
use Rattle.std.specs.Cmp.Lexicographic.{slice_cmp}
use Rattle.std.specs.List.{AllByRecursion, AllWithin, HoldsAt, insert, remove}
use Rattle.std.specs.List.Sorted.{IsBinarySearchResult, IsSearchInRange, IsSortedBy, IsStrictlySortedBy}
use Rattle.std.specs.Map.{keys_of}
use Rattle.std.proofs.lemmas.Bool.{cond-true, cond-false}
use Rattle.std.proofs.lemmas.Cmp.{nat_list_cmp_total, tied_itself}
use Rattle.std.proofs.lemmas.List.Sorted.{searchable_from_sorted}
use Rattle.std.proofs.lemmas.Option.{get_or_from_slice_get, slice_get-get_or}
use Rattle.ovn_base.specs.declared.name.Name.{Name}
use Rattle.ovn_base.specs.names.ByName.{at, put, IsByName}
use Rattle.ovn_base.proofs.ByNameLaws.{at_head, at_tail, put_there, put_other, one_or_two, own_name, other_name, same_name}
use Rattle.conn_zones.specs.NameMaps.{AreBelow, IsPlaceAt, IsGapAt}

-- a name above another is another
above_apart : (a b : Name) → slice_cmp nat_cmp a b ≡ Greater → a ≢ b
above_apart a b above same = let clash : false ≡ true = sym (ap is_eq above) ∙ subst (λ n. is_at (slice_cmp nat_cmp a) n ≡ true) same (own_name a) in cc

-- and so is one below it
below_apart : (a b : Name) → slice_cmp nat_cmp a b ≡ Less → a ≢ b
below_apart a b below same = let clash : false ≡ true = sym (ap is_eq below) ∙ subst (λ n. is_at (slice_cmp nat_cmp a) n ≡ true) same (own_name a) in cc

turned : (a b : Name) → slice_cmp nat_cmp a b ≡ Less → slice_cmp nat_cmp b a ≡ Greater
turned a b below = nat_list_cmp_total.antisymm b a ∙ ap ordering_reverse below

itself : (a b : Name) → a ≡ b → slice_cmp nat_cmp a b ≡ Equal
itself a b same = subst (λ n. slice_cmp nat_cmp a n ≡ Equal) same (tied_itself nat_list_cmp_total a)

module _ {X : Type 0} where
  -- no names are in order
  pub none_sorted : (es : List (Name × X)) → es ≡ [] → IsByName es
  unfolding IsStrictlySortedBy
  none_sorted [] none = tt
  none_sorted (e ∷ es) none = cc

  -- ---- what holds of the names of all entries, and of some

  key_holds : (P : Name → Type 0) (es : List (Name × X)) (i : ℕ) → i < length es → AllByRecursion P (keys_of es) → (d : Name × X) → P (slice_index_or es i d).0
  key_holds P [] i lt all d = absurd (omega (arith, lt))
  key_holds P (e ∷ es) zero lt all d = all.0
  key_holds P (e ∷ es) (suc i) lt all d = key_holds P es i (omega (arith, lt)) all.1 d

  left_hold : (P : Name → Type 0) (es : List (Name × X)) (i : ℕ) → AllByRecursion P (keys_of es) → AllByRecursion P (keys_of (remove es i))
  left_hold P [] zero all = all
  left_hold P [] (suc i) all = all
  left_hold P (e ∷ es) zero all = all.1
  left_hold P (e ∷ es) (suc i) all = (all.0, left_hold P es i all.1)

  -- a name below all has no value
  none_below : (es : List (Name × X)) (k : Name) → AllByRecursion (λ e. slice_cmp nat_cmp k e.0 ≡ Less) es → at es k ≡ None
  none_below [] k below = refl
  none_below (e ∷ es) k below = at_tail e es k (below_apart k e.0 below.0) ∙ none_below es k below.1

  entries_hold : (P : Name → Type 0) (es : List (Name × X)) → AllByRecursion P (keys_of es) → AllByRecursion (λ e. P e.0) es
  entries_hold P [] all = all
  entries_hold P (e ∷ es) all = (all.0, entries_hold P es all.1)

  -- ---- a search

  -- the names before a place are below the name there
  before_place : (es : List (Name × X)) → IsByName es → (k : Name) (i : ℕ) → i < length es → HoldsAt (λ e. e.0 ≡ k) es i → AreBelow es k i
  unfolding IsStrictlySortedBy
  before_place [] s k i lt here = absurd (omega (arith, lt))
  before_place (e ∷ es) s k zero lt here = tt
  before_place (e ∷ es) s k (suc i) lt here = (
    turned e.0 k (subst (λ n. slice_cmp nat_cmp e.0 n ≡ Less) (here e) (key_holds (λ y. slice_cmp nat_cmp e.0 y ≡ Less) es i (omega (arith, lt)) s.0 e)),
    before_place es s.1 k i (omega (arith, lt)) here,
  )

  -- neighbours are in order
  neighbours : (es : List (Name × X)) → IsByName es → IsSortedBy (λ a b. is_lt (slice_cmp nat_cmp a.0 b.0)) es
  unfolding IsStrictlySortedBy
  neighbours [] s k d a b = absurd (omega (arith, b))
  neighbours (e ∷ []) s k d a b = absurd (omega (arith, b))
  neighbours (e ∷ f ∷ es) s zero d a b = ap is_lt (turned e.0 f.0 s.0.0)
  neighbours (e ∷ f ∷ es) s (suc k) d a b =
      subst (λ n. is_lt (slice_cmp nat_cmp (slice_index_or (e ∷ f ∷ es) n d).0 (slice_index_or (f ∷ es) k d).0) ≡ false) {x = suc (k + 1)} {y = suc k + 1} (omega arith)
      (neighbours (f ∷ es) s.1 k d (omega (arith, a)) (omega (arith, b)))

  within_taken : (P : Name × X → Type 0) (es : List (Name × X)) (i : ℕ) → i ≤ length es → AllWithin P es 0 i → AllByRecursion P (take i es)
  within_taken P [] zero le all = tt
  within_taken P [] (suc i) le all = absurd (omega (arith, le))
  within_taken P (e ∷ es) zero le all = tt
  within_taken P (e ∷ es) (suc i) le all = (all 0 e (omega arith) (omega arith), within_taken P es i (omega (arith, le)) (λ k d a b. all (suc k) d (omega arith) (omega (arith, b))))

  within_left : (P : Name × X → Type 0) (es : List (Name × X)) (i : ℕ) → AllWithin P es i (length es) → AllByRecursion P (drop i es)
  within_left P [] zero all = tt
  within_left P [] (suc i) all = tt
  within_left P (e ∷ es) zero all = (all 0 e (omega arith) (omega arith), within_left P es zero (λ k d a b. all (suc k) d (omega arith) (omega (arith, b))))
  within_left P (e ∷ es) (suc i) all = within_left P es i (λ k d a b. all (suc k) d (omega (arith, a)) (omega (arith, b)))

  -- an entry that was read and has the name is at its place
  pub place_read : (es : List (Name × X)) → IsByName es → (k : Name) (i : ℕ) (e : Name × X) → i < length es → e ≡ slice_index_or es i e → e.0 ≡ k → IsPlaceAt es k i
  place_read es sorted k i e lt read same =
      let here : HoldsAt (λ e. e.0 ≡ k) es i = λ d. ap (λ (x : Name × X). x.0) (get_or_from_slice_get es i e d (slice_get-get_or es i e lt ∙ ap (λ (x : Name × X). Some x) (sym read))) ∙ same in
      record { in_range = lt; below = before_place es sorted k i lt here; here = here }

  module _ (es : List (Name × X)) (sorted : IsByName es) (k : Name) where
    -- it ends at the place of the name, or at the gap for it
    pub searched : (r : Result ℕ ℕ) → IsSearchInRange r (length es) → IsBinarySearchResult (λ e. slice_cmp nat_cmp e.0 k) es r → record { found : IfOk r (IsPlaceAt es k); absent : IfErr r (IsGapAt es k) }
    searched (Ok i) lt equal =
        let here : HoldsAt (λ e. e.0 ≡ k) es i = λ d. same_name (slice_index_or es i d).0 k (ap is_eq (equal d)) in
        record { found = record { in_range = lt; below = before_place es sorted k i lt here; here = here }; absent = tt }
    searched (Err i) le parted =
        let parts = parted (searchable_from_sorted nat_list_cmp_total (λ (e : Name × X). e.0) es k (neighbours es sorted)) in
        record {
          found = tt;
          absent = record {
            in_range = le;
            below = within_taken (λ e. slice_cmp nat_cmp k e.0 ≡ Greater) es i le (λ j d a b. turned (slice_index_or es j d).0 k (parts.0 j d a b));
            above = within_left (λ e. slice_cmp nat_cmp k e.0 ≡ Less) es i (λ j d a b. nat_list_cmp_total.antisymm k (slice_index_or es j d).0 ∙ ap ordering_reverse (parts.1 j d a b));
          };
        }

  -- ---- what is there

  pub at_place : (es : List (Name × X)) (k : Name) (i : ℕ) → IsPlaceAt es k i → (d : Name × X) → at es k ≡ Some (slice_index_or es i d).1
  at_place [] k i p d = absurd (omega (arith, p.in_range))
  at_place (e ∷ es) k zero p d = ap (λ n. at (e ∷ es) n) (sym (p.here d)) ∙ at_head e es
  at_place (e ∷ es) k (suc i) p d =
      at_tail e es k (above_apart k e.0 p.below.0)
      ∙ at_place es k i (record { in_range = omega (arith, p.in_range); below = p.below.1; here = λ d. p.here d }) d

  pub at_gap : (es : List (Name × X)) (k : Name) (i : ℕ) → IsGapAt es k i → at es k ≡ None
  at_gap [] k i g = refl
  at_gap (e ∷ es) k zero g = none_below (e ∷ es) k g.above
  at_gap (e ∷ es) k (suc i) g = at_tail e es k (above_apart k e.0 g.below.0) ∙ at_gap es k i (record { in_range = omega (arith, g.in_range); below = g.below.1; above = g.above })

  -- ---- changes

  -- a value that is written over is put there
  pub set_puts : (es : List (Name × X)) (k : Name) (i : ℕ) → IsPlaceAt es k i → (v : X) → slice_set es i (k, v) ≡ put es k v
  set_puts [] k i p v = absurd (omega (arith, p.in_range))
  set_puts (e ∷ es) k zero p v =
      let same : k ≡ e.0 = sym (p.here e) in
      (λ j. (same j, v) ∷ es) ∙ sym (ap (λ o. match_ordering o ((k, v) ∷ e ∷ es) ((e.0, v) ∷ es) (e ∷ put es k v)) (itself k e.0 same))
  set_puts (e ∷ es) k (suc i) p v =
      ap (λ l. e ∷ l) (set_puts es k i (record { in_range = omega (arith, p.in_range); below = p.below.1; here = λ d. p.here d }) v)
      ∙ sym (ap (λ o. match_ordering o ((k, v) ∷ e ∷ es) ((e.0, v) ∷ es) (e ∷ put es k v)) p.below.0)

  -- and so is one that is added in the gap
  pub insert_puts : (es : List (Name × X)) (k : Name) (i : ℕ) → IsGapAt es k i → (v : X) → insert es i (k, v) ≡ put es k v
  insert_puts [] k zero g v = refl
  insert_puts [] k (suc i) g v = absurd (omega (arith, g.in_range))
  insert_puts (e ∷ es) k zero g v = sym (ap (λ o. match_ordering o ((k, v) ∷ e ∷ es) ((e.0, v) ∷ es) (e ∷ put es k v)) g.above.0)
  insert_puts (e ∷ es) k (suc i) g v =
      ap (λ l. e ∷ l) (insert_puts es k i (record { in_range = omega (arith, g.in_range); below = g.below.1; above = g.above }) v)
      ∙ sym (ap (λ o. match_ordering o ((k, v) ∷ e ∷ es) ((e.0, v) ∷ es) (e ∷ put es k v)) g.below.0)

  -- what is found afterwards
  pub put_at : (es : List (Name × X)) (k : Name) (v : X) (q : Name) → at (put es k v) q ≡ cond (is_at (slice_cmp nat_cmp k) q) (Some v) (at es q)
  put_at es k v q = elim (one_or_two q k) [
    | inl same ↦
        let own : is_at (slice_cmp nat_cmp k) q ≡ true = subst (λ n. is_at (slice_cmp nat_cmp k) n ≡ true) (sym same) (own_name k) in
        ap (λ n. at (put es k v) n) same ∙ put_there es k v ∙ sym (cond-true (is_at (slice_cmp nat_cmp k) q) (Some v) (at es q) own)
    | inr apart ↦ put_other es k v q apart ∙ sym (cond-false (is_at (slice_cmp nat_cmp k) q) (Some v) (at es q) (other_name k q (λ h. apart (sym h))))
  ]

  -- the names stay in order where one is taken out
  pub remove_sorted : (es : List (Name × X)) (i : ℕ) → IsByName es → IsByName (remove es i)
  unfolding IsStrictlySortedBy
  remove_sorted [] zero s = s
  remove_sorted [] (suc i) s = s
  remove_sorted (e ∷ es) zero s = s.1
  remove_sorted (e ∷ es) (suc i) s = (left_hold (λ y. slice_cmp nat_cmp e.0 y ≡ Less) es i s.0, remove_sorted es i s.1)

  -- it has no value then, and the others have what they had
  pub remove_at : (es : List (Name × X)) (k : Name) (i : ℕ) → IsByName es → IsPlaceAt es k i → (q : Name) → at (remove es i) q ≡ cond (is_at (slice_cmp nat_cmp k) q) None (at es q)
  unfolding IsStrictlySortedBy
  remove_at [] k i s p q = absurd (omega (arith, p.in_range))
  remove_at (e ∷ es) k zero s p q = elim (one_or_two q k) [
    | inl same ↦
        let own : is_at (slice_cmp nat_cmp k) q ≡ true = subst (λ n. is_at (slice_cmp nat_cmp k) n ≡ true) (sym same) (own_name k) in
        let first : q ≡ e.0 = same ∙ sym (p.here e) in
        ap (λ n. at es n) first ∙ none_below es e.0 (entries_hold (λ y. slice_cmp nat_cmp e.0 y ≡ Less) es s.0) ∙ sym (cond-true (is_at (slice_cmp nat_cmp k) q) None (at (e ∷ es) q) own)
    | inr apart ↦
        sym (cond-false (is_at (slice_cmp nat_cmp k) q) None (at (e ∷ es) q) (other_name k q (λ h. apart (sym h))) ∙ at_tail e es q (λ h. apart (h ∙ p.here e)))
  ]
  remove_at (e ∷ es) k (suc i) s p q =
      let later = remove_at es k i s.1 (record { in_range = omega (arith, p.in_range); below = p.below.1; here = λ d. p.here d }) q in
      elim (one_or_two q e.0) [
        | inl same ↦
            let apart : k ≢ q = λ h. above_apart k e.0 p.below.0 (h ∙ same) in
            ap (λ n. at (e ∷ remove es i) n) same ∙ at_head e (remove es i) ∙ sym (ap (λ n. at (e ∷ es) n) same ∙ at_head e es)
            ∙ sym (cond-false (is_at (slice_cmp nat_cmp k) q) None (at (e ∷ es) q) (other_name k q apart))
        | inr apart ↦ at_tail e (remove es i) q apart ∙ later ∙ ap (λ o. cond (is_at (slice_cmp nat_cmp k) q) None o) (sym (at_tail e es q apart))
      ]

  -- a name that isn't there is taken out by leaving all as it is
  pub gap_removed : (es : List (Name × X)) (k : Name) → at es k ≡ None → (q : Name) → at es q ≡ cond (is_at (slice_cmp nat_cmp k) q) None (at es q)
  gap_removed es k none q = elim (one_or_two q k) [
    | inl same ↦
        let own : is_at (slice_cmp nat_cmp k) q ≡ true = subst (λ n. is_at (slice_cmp nat_cmp k) n ≡ true) (sym same) (own_name k) in
        ap (λ n. at es n) same ∙ none ∙ sym (cond-true (is_at (slice_cmp nat_cmp k) q) None (at es q) own)
    | inr apart ↦ sym (cond-false (is_at (slice_cmp nat_cmp k) q) None (at es q) (other_name k q (λ h. apart (sym h))))
  ]
