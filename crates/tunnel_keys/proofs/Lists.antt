-- Several values put in turn, filters of entries, and lists in which each stands once.
use Rattle.std.specs.Prelude.{◌≡◌, ◌≢◌, suc, ◌+◌, ◌⊎◌, Bool, true, false, cond, List, [], ◌∷◌, ◌++◌, length, Option, Some, None, refl}
use mathlib.Core.Path.{sym, ap, subst, ◌∙◌}
use mathlib.Core.Logic.{inl, inr}
use native.Mathlib.Omega.{arith}
use Rattle.std.specs.declared.cmp.Ordering.TheVariants.{Less, Greater}
use Rattle.std.specs.Ordering.{nat_cmp, match_ordering, ordering_reverse}
use Rattle.std.specs.Cmp.Lexicographic.{slice_cmp}
use Rattle.std.specs.Map.{keys_of}
use Rattle.std.specs.List.{AllByRecursion, filter}
use Rattle.std.specs.List.Sorted.{IsStrictlySortedBy}
use Rattle.std.proofs.lemmas.Cmp.{nat_list_cmp_total}
use Rattle.std.proofs.Common.{append_assoc}
use Rattle.std.proofs.lemmas.Option.{none-some}
use Rattle.std.proofs.lemmas.Bool.{false≢true}
use Rattle.std.proofs.lemmas.Bool.Decides.{Decides-eqb}
use Rattle.std.proofs.lemmas.List.{nil_from_length}
use Rattle.std.proofs.Math.Dec.{eqb as nat_eq}
use Rattle.ovn_base.specs.lists.Among.{Among, here, there}
use Rattle.ovn_base.proofs.AmongLaws.{among_same, among_none, among_cases, among_append, among_filter, filter_among}
use Rattle.ovn_base.specs.declared.name.Name.{Name}
use Rattle.ovn_base.specs.names.ByName.{at, put, put_all, in_order, IsByName}
use Rattle.ovn_base.specs.lists.Once.{EachOnce}
use Rattle.ovn_base.proofs.ByNameLaws.{one_or_two, at_head, at_tail, put_there, put_other, put_cases, put_length, put_sorted, at_among, among_at}

-- ---- each once

module _ {X : Type 0} where
  pub append_none : (xs : List X) → xs ++ [] ≡ xs
  append_none [] = refl
  append_none (x ∷ xs) = ap (λ ys. x ∷ ys) (append_none xs)

  -- a list of no length
  pub no_length : (xs : List X) → nat_eq (length xs) 0 ≡ true → xs ≡ []
  no_length xs h = nil_from_length xs ((Decides-eqb (length xs) 0).0 h)

  pub some_length : (xs : List X) → nat_eq (length xs) 0 ≡ false → xs ≢ []
  some_length xs h none = false≢true (sym h ∙ (Decides-eqb (length xs) 0).1 (ap length none))

  -- nothing before and behind
  pub none_left : (xs ys : List X) → xs ++ ys ≡ [] → xs ≡ []
  none_left [] ys h = refl
  none_left (x ∷ xs) ys h = cc

  pub none_right : (xs ys : List X) → xs ++ ys ≡ [] → ys ≡ []
  none_right [] ys h = h
  none_right (x ∷ xs) ys h = cc

  -- one more behind the others
  pub once_more : (xs : List X) (x : X) → EachOnce xs → (¬ Among x xs) → EachOnce (xs ++ x ∷ [])
  once_more [] x o n = ((λ m. among_none x m), tt)
  once_more (y ∷ ys) x o n = (
    (λ m. elim (among_append y ys (x ∷ []) m) [ inl a ↦ o.0 a | inr b ↦ elim (among_cases y x [] b) [ inl e ↦ n (among_same x y ys (sym e)) | inr c ↦ among_none y c ] ]),
    once_more ys x o.1 (λ m. n (there m)),
  )

  -- those that pass a test
  pub once_filter : (p : X → Bool) (xs : List X) → EachOnce xs → EachOnce (filter p xs)
  once_filter p [] o = tt
  once_filter p (x ∷ xs) o = by (p x) (once_filter p xs o.1)
    where
      by : (b : Bool) → EachOnce (filter p xs) → EachOnce (cond b (x ∷ filter p xs) (filter p xs))
      by true ih = ((λ m. o.0 (filter_among p x xs m).0), ih)
      by false ih = ih

none_sorted : (X : Type 0) → IsByName {X = X} []
unfolding IsStrictlySortedBy
none_sorted X = tt

module _ {X : Type 0} where
  -- ---- several puts

  pub put_all_sorted : (es gs : List (Name × X)) → IsByName es → IsByName (put_all es gs)
  put_all_sorted es [] s = s
  put_all_sorted es (g ∷ gs) s = put_all_sorted (put es g.0 g.1) gs (put_sorted es g.0 g.1 s)

  pub in_order_sorted : (gs : List (Name × X)) → IsByName (in_order gs)
  in_order_sorted gs = put_all_sorted [] gs (none_sorted X)

  -- the other names keep what they have
  pub put_all_other : (es gs : List (Name × X)) (n : Name) → ((e : Name × X) → Among e gs → e.0 ≢ n) → at (put_all es gs) n ≡ at es n
  put_all_other es [] n h = refl
  put_all_other es (g ∷ gs) n h = put_all_other (put es g.0 g.1) gs n (λ e m. h e (there m)) ∙ put_other es g.0 g.1 n (λ same. h g here (sym same))

  -- what is found afterwards was there, or is one of the others
  pub put_all_cases : (es gs : List (Name × X)) (n : Name) (v : X) → at (put_all es gs) n ≡ Some v → (at es n ≡ Some v) ⊎ Among (n, v) gs
  put_all_cases es [] n v f = inl f
  put_all_cases es (g ∷ gs) n v f = elim (put_all_cases (put es g.0 g.1) gs n v f) [
    | inl old ↦ elim (put_cases es g.0 g.1 n v old) [
      | inl new ↦ inr (among_same (n, v) g gs (λ i. (new.0 i, new.1 i)))
      | inr other ↦ inl other.1
    ]
    | inr m ↦ inr (there m)
  ]

  -- a name that is not found stands at no entry
  pub at_none : (q : Name) (e : Name × X) (es : List (Name × X)) → at es q ≡ None → Among e es → e.0 ≢ q
  at_none q e es none here same = none-some e.1 (sym none ∙ ap (λ n. at es n) (sym same) ∙ at_head e _)
  at_none q e (f ∷ es) none (there m) same = elim (one_or_two q f.0) [
    | inl first ↦ none-some f.1 (sym none ∙ ap (λ n. at (f ∷ es) n) first ∙ at_head f es)
    | inr apart ↦ at_none q e es (sym (at_tail f es q apart) ∙ none) m same
  ]

  -- and one that stands at none is not found
  pub none_at : (es : List (Name × X)) (q : Name) → ((e : Name × X) → Among e es → e.0 ≢ q) → at es q ≡ None
  none_at [] q h = refl
  none_at (e ∷ es) q h = at_tail e es q (λ same. h e here (sym same)) ∙ none_at es q (λ f m. h f (there m))

  -- one of the others is found, where no second one has its name
  pub put_all_there : (es gs : List (Name × X)) (n : Name) (v : X) → ((w : X) → Among (n, w) gs → w ≡ v) → Among (n, v) gs → at (put_all es gs) n ≡ Some v
  put_all_there es [] n v one m = absurd (among_none (n, v) m)
  put_all_there es (g ∷ gs) n v one m = by (at gs n) refl (λ k. put_all_there (put es g.0 g.1) gs n v (λ u l. one u (there l)) k)
    where
      by : (o : Option X) → at gs n ≡ o → (Among (n, v) gs → at (put_all es (g ∷ gs)) n ≡ Some v) → at (put_all es (g ∷ gs)) n ≡ Some v
      by (Some w) f ih =
          let later : Among (n, w) gs = at_among gs n w f in
          let same : w ≡ v = one w (there later) in
          ih (subst (λ u. Among (n, u) gs) same later)
      by None f ih = elim (among_cases (n, v) g gs m) [
        | inl first ↦
            let name : g.0 ≡ n = ap (λ (e : Name × X). e.0) (sym first) in
            let value : g.1 ≡ v = ap (λ (e : Name × X). e.1) (sym first) in
            put_all_other (put es g.0 g.1) gs n (λ e k. at_none n e gs f k) ∙ ap (λ k. at (put es g.0 g.1) k) (sym name) ∙ put_there es g.0 g.1 ∙ ap (λ u. Some u) value
        | inr later ↦ ih later
      ]

  pub in_order_among : (gs : List (Name × X)) (n : Name) (v : X) → Among (n, v) (in_order gs) → Among (n, v) gs
  in_order_among gs n v m = elim (put_all_cases [] gs n v (among_at n v (in_order gs) (in_order_sorted gs) m)) [ inl f ↦ absurd (none-some v f) | inr k ↦ k ]

  pub among_in_order : (gs : List (Name × X)) (n : Name) (v : X) → ((w : X) → Among (n, w) gs → w ≡ v) → Among (n, v) gs → Among (n, v) (in_order gs)
  among_in_order gs n v one m = at_among (in_order gs) n v (put_all_there [] gs n v one m)

  -- no name stands twice
  abbrev pub NamesOnce : List (Name × X) → Type 0
  NamesOnce [] = Unit {0}
  NamesOnce (e ∷ es) = ((f : Name × X) → Among f es → f.0 ≢ e.0) × NamesOnce es

  pub put_all_length : (es gs : List (Name × X)) → ((e : Name × X) → Among e gs → at es e.0 ≡ None) → NamesOnce gs → length (put_all es gs) ≡ length es + length gs
  put_all_length es [] new once = omega arith
  put_all_length es (g ∷ gs) new once =
      let one : length (put es g.0 g.1) ≡ suc (length es) = put_length es g.0 g.1 (new g here) in
      let rest : length (put_all (put es g.0 g.1) gs) ≡ length (put es g.0 g.1) + length gs = put_all_length (put es g.0 g.1) gs (λ e m. put_other es g.0 g.1 e.0 (once.0 e m) ∙ new e (there m)) once.1 in
      omega (arith, one, rest)

  pub in_order_length : (gs : List (Name × X)) → NamesOnce gs → length (in_order gs) ≡ length gs
  in_order_length gs once = let all : length (put_all [] gs) ≡ 0 + length gs = put_all_length [] gs (λ e m. refl) once in omega (arith, all)

  -- ---- entries that are in order already

  put_last : (es : List (Name × X)) (k : Name) (v : X) → AllByRecursion (λ y. slice_cmp nat_cmp y k ≡ Less) (keys_of es) → put es k v ≡ es ++ (k, v) ∷ []
  put_last [] k v h = refl
  put_last (e ∷ es) k v h =
      let above : slice_cmp nat_cmp k e.0 ≡ Greater = nat_list_cmp_total.antisymm k e.0 ∙ ap ordering_reverse h.0 in
      ap (λ o. match_ordering o ((k, v) ∷ e ∷ es) ((e.0, v) ∷ es) (e ∷ put es k v)) above ∙ ap (λ (t : List (Name × X)). e ∷ t) (put_last es k v h.1)

  in_middle : (P : Name → Type 0) (es : List (Name × X)) (g : Name × X) (gs : List (Name × X)) → AllByRecursion P (keys_of (es ++ g ∷ gs)) → P g.0
  in_middle P [] g gs h = h.0
  in_middle P (e ∷ es) g gs h = in_middle P es g gs h.1

  below_middle : (es : List (Name × X)) (g : Name × X) (gs : List (Name × X)) → IsByName (es ++ g ∷ gs) → AllByRecursion (λ y. slice_cmp nat_cmp y g.0 ≡ Less) (keys_of es)
  unfolding IsStrictlySortedBy
  below_middle [] g gs s = tt
  below_middle (e ∷ es) g gs s = (in_middle (λ y. slice_cmp nat_cmp e.0 y ≡ Less) es g gs s.0, below_middle es g gs s.1)

  put_all_last : (es gs : List (Name × X)) → IsByName (es ++ gs) → put_all es gs ≡ es ++ gs
  put_all_last es [] s = sym (append_none es)
  put_all_last es (g ∷ gs) s =
      let shift : (es ++ g ∷ []) ++ gs ≡ es ++ g ∷ gs = append_assoc es (g ∷ []) gs in
      ap (λ t. put_all t gs) (put_last es g.0 g.1 (below_middle es g gs s)) ∙ put_all_last (es ++ g ∷ []) gs (subst IsByName (sym shift) s) ∙ shift

  pub in_order_same : (gs : List (Name × X)) → IsByName gs → in_order gs ≡ gs
  in_order_same gs s = put_all_last [] gs s

  -- ---- filters

  all_filter : (P : Name → Type 0) (p : Name × X → Bool) (es : List (Name × X)) → AllByRecursion P (keys_of es) → AllByRecursion P (keys_of (filter p es))
  all_filter P p [] h = tt
  all_filter P p (e ∷ es) h = by (p e) (all_filter P p es h.1)
    where
      by : (b : Bool) → AllByRecursion P (keys_of (filter p es)) → AllByRecursion P (keys_of (cond b (e ∷ filter p es) (filter p es)))
      by true ih = (h.0, ih)
      by false ih = ih

  pub filter_sorted : (p : Name × X → Bool) (es : List (Name × X)) → IsByName es → IsByName (filter p es)
  unfolding IsStrictlySortedBy
  filter_sorted p [] s = tt
  filter_sorted p (e ∷ es) s = by (p e) (filter_sorted p es s.1)
    where
      by : (b : Bool) → IsByName (filter p es) → IsByName (cond b (e ∷ filter p es) (filter p es))
      by true ih = (all_filter (λ y. slice_cmp nat_cmp e.0 y ≡ Less) p es s.0, ih)
      by false ih = ih

  -- what passes is found
  pub at_filter : (p : Name × X → Bool) (es : List (Name × X)) → IsByName es → (n : Name) (v : X) → at es n ≡ Some v → p (n, v) ≡ true → at (filter p es) n ≡ Some v
  at_filter p es s n v f t = among_at n v (filter p es) (filter_sorted p es s) (among_filter p (n, v) es (at_among es n v f) t)

  -- and what is found was there, and passes
  pub filter_at : (p : Name × X → Bool) (es : List (Name × X)) → IsByName es → (n : Name) (v : X) → at (filter p es) n ≡ Some v → (at es n ≡ Some v) × (p (n, v) ≡ true)
  filter_at p es s n v f =
      let k = filter_among p (n, v) es (at_among (filter p es) n v f) in
      (among_at n v es s k.0, k.1)
