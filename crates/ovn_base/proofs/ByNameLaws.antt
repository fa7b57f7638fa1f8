-- Look-ups, members and the order of the names, before and after a value is put.
use Rattle.std.specs.Prelude.{◌≡◌, ◌≢◌, suc, ◌⊎◌, true, false, cond, List, [], ◌∷◌, length, Some, None, refl}
use mathlib.Core.Path.{sym, ap, subst, ◌∙◌}
use mathlib.Core.Logic.{inl, inr}
use Rattle.std.specs.declared.cmp.Ordering.{Ordering}
use Rattle.std.specs.declared.cmp.Ordering.TheVariants.{Less, Equal, Greater}
use Rattle.std.specs.Ordering.{nat_cmp, is_eq, match_ordering, ordering_reverse}
use Rattle.std.specs.Option.{unwrap_or}
use Rattle.std.specs.Cmp.Lexicographic.{slice_cmp}
use Rattle.std.specs.Map.{keys_of}
use Rattle.std.specs.BTreeMap.{is_at}
use Rattle.std.specs.List.{AllByRecursion}
use Rattle.std.specs.List.Sorted.{IsStrictlySortedBy}
use Rattle.std.proofs.lemmas.Bool.{false≢true, cases_Bool, cond-true, cond-false}
use Rattle.std.proofs.lemmas.Cmp.{nat_list_cmp_total, tied_itself}
use Rattle.std.proofs.lemmas.Map.Text.{is_eq-slice_cmp}
use Rattle.ovn_base.specs.lists.Among.{Among, here, there}
use Rattle.ovn_base.proofs.AmongLaws.{among_same}
use Rattle.ovn_base.specs.names.SameName.{bytes_decides}
use Rattle.ovn_base.specs.declared.name.Name.{Name}
use Rattle.ovn_base.specs.names.ByName.{at, put, IsByName}

-- ---- names

-- names that compare `Equal` are one
pub same_name : (a b : Name) → is_at (slice_cmp nat_cmp a) b ≡ true → a ≡ b
same_name a b h = (bytes_decides a b).0 (sym (is_eq-slice_cmp a b) ∙ h)

pub own_name : (a : Name) → is_at (slice_cmp nat_cmp a) a ≡ true
own_name a = ap is_eq (tied_itself nat_list_cmp_total a)

-- and others do not
pub other_name : (a b : Name) → a ≢ b → is_at (slice_cmp nat_cmp a) b ≡ false
other_name a b apart = elim (cases_Bool (is_at (slice_cmp nat_cmp a) b)) [
  | inl same ↦ absurd (apart (same_name a b same))
  | inr other ↦ other
]

-- a name that is below another is another
pub below_apart : (a b : Name) → slice_cmp nat_cmp a b ≡ Less → b ≢ a
below_apart a b below same = false≢true (sym (ap is_eq below) ∙ subst (λ n. is_at (slice_cmp nat_cmp a) n ≡ true) (sym same) (own_name a))

-- one name or two
pub one_or_two : (a b : Name) → (a ≡ b) ⊎ (a ≢ b)
one_or_two a b = elim (cases_Bool (is_at (slice_cmp nat_cmp a) b)) [
  | inl same ↦ inl (same_name a b same)
  | inr other ↦ inr (λ same. false≢true (sym other ∙ subst (λ n. is_at (slice_cmp nat_cmp a) n ≡ true) same (own_name a)))
]

-- a name that is below the first is below all
above_all : (a b : Name) (ks : List Name) → slice_cmp nat_cmp a b ≡ Less → AllByRecursion (λ y. slice_cmp nat_cmp b y ≡ Less) ks → AllByRecursion (λ y. slice_cmp nat_cmp a y ≡ Less) ks
above_all a b [] below h = h
above_all a b (y ∷ ys) below h = (nat_list_cmp_total.trans a b y below h.0, above_all a b ys below h.1)

module _ {X : Type 0} where
  -- ---- look-ups

  -- what is found first
  pub at_head : (e : Name × X) (es : List (Name × X)) → at (e ∷ es) e.0 ≡ Some e.1
  at_head e es = cond-true (is_at (slice_cmp nat_cmp e.0) e.0) (Some e.1) (at es e.0) (own_name e.0)

  -- and what is found later
  pub at_tail : (e : Name × X) (es : List (Name × X)) (q : Name) → q ≢ e.0 → at (e ∷ es) q ≡ at es q
  at_tail e es q apart = cond-false (is_at (slice_cmp nat_cmp q) e.0) (Some e.1) (at es q) (other_name q e.0 apart)

  -- ---- look-ups after a value was put

  there_at : (k : Name) (v : X) (o : Ordering) (e : Name × X) (es : List (Name × X)) → slice_cmp nat_cmp k e.0 ≡ o → at (put es k v) k ≡ Some v
      → at (match_ordering o ((k, v) ∷ e ∷ es) ((e.0, v) ∷ es) (e ∷ put es k v)) k ≡ Some v
  there_at k v Less e es is later = at_head (k, v) (e ∷ es)
  there_at k v Equal e es is later = cond-true (is_at (slice_cmp nat_cmp k) e.0) (Some v) (at es k) (ap is_eq is)
  there_at k v Greater e es is later = cond-false (is_at (slice_cmp nat_cmp k) e.0) (Some e.1) (at (put es k v) k) (ap is_eq is) ∙ later

  -- what was put is found at its name
  pub put_there : (es : List (Name × X)) (k : Name) (v : X) → at (put es k v) k ≡ Some v
  put_there [] k v = at_head (k, v) []
  put_there (e ∷ es) k v = there_at k v (slice_cmp nat_cmp k e.0) e es refl (put_there es k v)

  other_at : (k : Name) (v : X) (q : Name) → q ≢ k → (o : Ordering) (e : Name × X) (es : List (Name × X)) → slice_cmp nat_cmp k e.0 ≡ o → at (put es k v) q ≡ at es q
      → at (match_ordering o ((k, v) ∷ e ∷ es) ((e.0, v) ∷ es) (e ∷ put es k v)) q ≡ at (e ∷ es) q
  other_at k v q apart Less e es is later = at_tail (k, v) (e ∷ es) q apart
  other_at k v q apart Equal e es is later =
      let same : k ≡ e.0 = same_name k e.0 (ap is_eq is) in
      let apart' : q ≢ e.0 = λ h. apart (h ∙ sym same) in
      at_tail (e.0, v) es q apart' ∙ sym (at_tail e es q apart')
  other_at k v q apart Greater e es is later = ap (λ r. cond (is_at (slice_cmp nat_cmp q) e.0) (Some e.1) r) later

  -- the other names keep what they have
  pub put_other : (es : List (Name × X)) (k : Name) (v : X) (q : Name) → q ≢ k → at (put es k v) q ≡ at es q
  put_other [] k v q apart = at_tail (k, v) [] q apart
  put_other (e ∷ es) k v q apart = other_at k v q apart (slice_cmp nat_cmp k e.0) e es refl (put_other es k v q apart)

  -- what is found afterwards is the value that was put, or what another name had
  pub put_cases : (es : List (Name × X)) (k : Name) (v : X) (q : Name) (w : X) → at (put es k v) q ≡ Some w → ((q ≡ k) × (w ≡ v)) ⊎ ((q ≢ k) × (at es q ≡ Some w))
  put_cases es k v q w found = elim (one_or_two q k) [
    | inl same ↦ inl (same, ap (λ o. unwrap_or o v) (sym found ∙ ap (λ n. at (put es k v) n) same ∙ put_there es k v))
    | inr apart ↦ inr (apart, sym (put_other es k v q apart) ∙ found)
  ]

  -- at a new name nothing that was there is lost
  pub put_keeps : (es : List (Name × X)) (k : Name) (v : X) → at es k ≡ None → (q : Name) (w : X) → at es q ≡ Some w → at (put es k v) q ≡ Some w
  put_keeps es k v absent q w found =
      let apart : q ≢ k = λ same. let none : at es q ≡ None = ap (λ n. at es n) same ∙ absent in let clash : Some w ≡ None = sym found ∙ none in cc in
      put_other es k v q apart ∙ found

  length_at : (k : Name) (v : X) (o : Ordering) (e : Name × X) (es : List (Name × X)) → slice_cmp nat_cmp k e.0 ≡ o → at (e ∷ es) k ≡ None → (at es k ≡ None → length (put es k v) ≡ suc (length es))
      → length (match_ordering o ((k, v) ∷ e ∷ es) ((e.0, v) ∷ es) (e ∷ put es k v)) ≡ suc (suc (length es))
  length_at k v Less e es is absent later = refl
  length_at k v Equal e es is absent later =
      let found : at (e ∷ es) k ≡ Some e.1 = cond-true (is_at (slice_cmp nat_cmp k) e.0) (Some e.1) (at es k) (ap is_eq is) in
      let clash : Some e.1 ≡ None = sym found ∙ absent in
      cc
  length_at k v Greater e es is absent later = ap suc (later (sym (cond-false (is_at (slice_cmp nat_cmp k) e.0) (Some e.1) (at es k) (ap is_eq is)) ∙ absent))

  -- a new name makes one entry more
  pub put_length : (es : List (Name × X)) (k : Name) (v : X) → at es k ≡ None → length (put es k v) ≡ suc (length es)
  put_length [] k v absent = refl
  put_length (e ∷ es) k v absent = length_at k v (slice_cmp nat_cmp k e.0) e es refl absent (put_length es k v)

  -- ---- the order of the names

  above_at : (k : Name) (v : X) (a : Name) → slice_cmp nat_cmp a k ≡ Less → (o : Ordering) (e : Name × X) (es : List (Name × X)) → AllByRecursion (λ y. slice_cmp nat_cmp a y ≡ Less) (keys_of (e ∷ es))
      → AllByRecursion (λ y. slice_cmp nat_cmp a y ≡ Less) (keys_of (put es k v))
      → AllByRecursion (λ y. slice_cmp nat_cmp a y ≡ Less) (keys_of (match_ordering o ((k, v) ∷ e ∷ es) ((e.0, v) ∷ es) (e ∷ put es k v)))
  above_at k v a below Less e es h later = (below, h)
  above_at k v a below Equal e es h later = h
  above_at k v a below Greater e es h later = (h.0, later)

  above_put : (es : List (Name × X)) (k : Name) (v : X) (a : Name) → slice_cmp nat_cmp a k ≡ Less → AllByRecursion (λ y. slice_cmp nat_cmp a y ≡ Less) (keys_of es) → AllByRecursion (λ y. slice_cmp nat_cmp a y ≡ Less) (keys_of (put es k v))
  above_put [] k v a below h = (below, h)
  above_put (e ∷ es) k v a below h = above_at k v a below (slice_cmp nat_cmp k e.0) e es h (above_put es k v a below h.1)

  sorted_at : (k : Name) (v : X) (o : Ordering) (e : Name × X) (es : List (Name × X)) → slice_cmp nat_cmp k e.0 ≡ o → IsByName (e ∷ es)
      → IsByName (put es k v)
      → IsByName (match_ordering o ((k, v) ∷ e ∷ es) ((e.0, v) ∷ es) (e ∷ put es k v))
  unfolding IsStrictlySortedBy
  sorted_at k v Less e es is s later = ((is, above_all k e.0 (keys_of es) is s.0), s)
  sorted_at k v Equal e es is s later = s
  sorted_at k v Greater e es is s later =
      let below : slice_cmp nat_cmp e.0 k ≡ Less = nat_list_cmp_total.antisymm e.0 k ∙ ap ordering_reverse is in
      (above_put es k v e.0 below s.0, later)

  -- the names stay in order, each once
  pub put_sorted : (es : List (Name × X)) (k : Name) (v : X) → IsByName es → IsByName (put es k v)
  unfolding IsStrictlySortedBy
  put_sorted [] k v s = (tt, tt)
  put_sorted (e ∷ es) k v s = sorted_at k v (slice_cmp nat_cmp k e.0) e es refl s (put_sorted es k v s.1)

  -- ---- members

  -- what is found is an entry
  pub at_among : (es : List (Name × X)) (q : Name) (w : X) → at es q ≡ Some w → Among (q, w) es
  at_among [] q w found = cc
  at_among (e ∷ es) q w found = elim (one_or_two q e.0) [
    | inl same ↦
        let value : w ≡ e.1 = ap (λ o. unwrap_or o w) (sym found ∙ ap (λ n. at (e ∷ es) n) same ∙ at_head e es) in
        among_same (q, w) e es (λ i. (same i, value i))
    | inr apart ↦ there (at_among es q w (sym (at_tail e es q apart) ∙ found))
  ]

  -- the names of the entries are among the names
  pub above_among : (a : Name) (q : Name) (w : X) (es : List (Name × X)) → AllByRecursion (λ y. slice_cmp nat_cmp a y ≡ Less) (keys_of es) → Among (q, w) es → slice_cmp nat_cmp a q ≡ Less
  above_among a q w es h here = h.0
  above_among a q w es h (there m) = above_among a q w _ h.1 m

  -- an entry is found, since its name stands once
  pub among_at : (q : Name) (w : X) (es : List (Name × X)) → IsByName es → Among (q, w) es → at es q ≡ Some w
  unfolding IsStrictlySortedBy
  among_at q w es s here = at_head (q, w) _
  among_at q w (e ∷ es) s (there m) = at_tail e es q (below_apart e.0 q (above_among e.0 q w es s.0 m)) ∙ among_at q w es s.1 m

  -- what was put is an entry
  pub put_among : (es : List (Name × X)) (k : Name) (v : X) → Among (k, v) (put es k v)
  put_among es k v = at_among (put es k v) k v (put_there es k v)

  -- and the entries of the other names stay
  pub put_among_other : (es : List (Name × X)) (k : Name) (v : X) → IsByName es → (q : Name) (w : X) → q ≢ k → Among (q, w) es → Among (q, w) (put es k v)
  put_among_other es k v s q w apart m = at_among (put es k v) q w (put_other es k v q apart ∙ among_at q w es s m)

  -- an entry afterwards is the one that was put, or one of another name that was there
  pub put_among_cases : (es : List (Name × X)) (k : Name) (v : X) → IsByName es → (q : Name) (w : X) → Among (q, w) (put es k v) → ((q ≡ k) × (w ≡ v)) ⊎ ((q ≢ k) × Among (q, w) es)
  put_among_cases es k v s q w m = elim (put_cases es k v q w (among_at q w (put es k v) (put_sorted es k v s) m)) [
    | inl new ↦ inl new
    | inr old ↦ inr (old.0, at_among es q w old.1)
  ]
