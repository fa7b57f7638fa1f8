-- Laws of lists in an order.
use Rattle.std.specs.Prelude.{◌≡◌, ◌<◌, ◌⊎◌, ◌↔◌, ◌+◌, ℕ, suc, Bool, true, false, cond, List, [], ◌∷◌, ◌++◌, take, drop, length, filter}
use Rattle.std.proofs.Common.{get_or}
use mathlib.Core.Path.{sym, ap, subst, ◌∙◌}
use mathlib.Core.Logic.{inl, inr}
use native.Mathlib.Omega.{arith}
use Rattle.std.proofs.Math.Seq.{drop-cons}
use Rattle.std.proofs.lemmas.List.{take_more, take-append-drop}
use Rattle.ovn_base.specs.lists.Among.{Among, here, there}
use Rattle.ovn_base.specs.lists.Once.{EachOnce}
use Rattle.ovn_base.proofs.AmongLaws.{among_append, among_cases, among_left, among_right, among_none, filter_among}
use Rattle.tuple_space.specs.Ranked.{IsRanked}

module _ {X : Type 0} where
  -- one element more from the front
  pub among_more : (xs : List X) (i : ℕ) (d y : X) → i < length xs → Among y (take (i + 1) xs) → Among y (take i xs) ⊎ (y ≡ get_or xs i d)
  among_more xs i d y l m =
      elim (among_append y (take i xs) (get_or xs i d ∷ []) (subst (λ ys. Among y ys) (take_more xs i d l) m)) [
        | inl a ↦ inl a
        | inr b ↦ elim (among_cases y (get_or xs i d) [] b) [ inl e ↦ inr e | inr n ↦ absurd (among_none y n) ]
      ]

  -- one element between
  between : (xs ys : List X) (x y : X) → Among y (xs ++ x ∷ ys) ↔ ((y ≡ x) ⊎ Among y (xs ++ ys))
  between xs ys x y = (
    λ m. elim (among_append y xs (x ∷ ys) m) [
      | inl a ↦ inr (among_left y xs ys a)
      | inr b ↦ elim (among_cases y x ys b) [ inl e ↦ inl e | inr c ↦ inr (among_right y xs ys c) ]
    ],
    λ m. elim m [
      | inl e ↦ subst (λ z. Among z (xs ++ x ∷ ys)) (sym e) (among_right x xs (x ∷ ys) here)
      | inr n ↦ elim (among_append y xs ys n) [ inl a ↦ among_left y xs (x ∷ ys) a | inr b ↦ among_right y xs (x ∷ ys) (there b) ]
    ],
  )

  once_between : (xs ys : List X) (x : X) → EachOnce (xs ++ ys) → ¬ Among x (xs ++ ys) → EachOnce (xs ++ x ∷ ys)
  once_between [] ys x h fresh = (fresh, h)
  once_between (z ∷ xs) ys x h fresh = (
    λ m. elim ((between xs ys x z).0 m) [ inl e ↦ fresh (subst (λ w. Among w (z ∷ (xs ++ ys))) e here) | inr n ↦ h.0 n ],
    once_between xs ys x h.1 (λ m. fresh (there m)),
  )

  -- one element put in at an index
  pub among_insert : (xs : List X) (i : ℕ) (x y : X) → Among y (take i xs ++ x ∷ drop i xs) ↔ ((y ≡ x) ⊎ Among y xs)
  among_insert xs i x y = subst (λ l. Among y (take i xs ++ x ∷ drop i xs) ↔ ((y ≡ x) ⊎ Among y l)) (take-append-drop i xs) (between (take i xs) (drop i xs) x y)

  pub once_insert : (xs : List X) (i : ℕ) (x : X) → EachOnce xs → ¬ Among x xs → EachOnce (take i xs ++ x ∷ drop i xs)
  once_insert xs i x h fresh = once_between (take i xs) (drop i xs) x (subst (λ l. EachOnce l) (sym (take-append-drop i xs)) h) (subst (λ l. ¬ Among x l) (sym (take-append-drop i xs)) fresh)

module _ {X : Type 0} (R : X → X → Type 0) where
  -- the parts
  pub ranked_right : (xs ys : List X) → IsRanked R (xs ++ ys) → IsRanked R ys
  ranked_right [] ys h = h
  ranked_right (x ∷ xs) ys h = ranked_right xs ys h.1

  -- one element between
  pub ranked_insert : (xs ys : List X) (x : X) → IsRanked R (xs ++ ys) → ((y : X) → Among y xs → R y x) → ((y : X) → Among y ys → R x y) → IsRanked R (xs ++ x ∷ ys)
  ranked_insert [] ys x h before behind = (behind, h)
  ranked_insert (z ∷ xs) ys x h before behind = (
    λ y m. elim (among_append y xs (x ∷ ys) m) [
      | inl a ↦ h.0 y (among_left y xs ys a)
      | inr b ↦ elim (among_cases y x ys b) [ inl e ↦ subst (λ w. R z w) (sym e) (before z here) | inr c ↦ h.0 y (among_right y xs ys c) ]
    ],
    ranked_insert xs ys x h.1 (λ y m. before y (there m)) behind,
  )

  -- without one of the elements
  pub ranked_without : (xs ys : List X) (x : X) → IsRanked R (xs ++ x ∷ ys) → IsRanked R (xs ++ ys)
  ranked_without [] ys x h = h.1
  ranked_without (z ∷ xs) ys x h = (
    λ y m. elim (among_append y xs ys m) [ inl a ↦ h.0 y (among_left y xs (x ∷ ys) a) | inr b ↦ h.0 y (among_right y xs (x ∷ ys) (there b)) ],
    ranked_without xs ys x h.1,
  )

  -- those that pass a test
  pub ranked_filter : (test : X → Bool) (xs : List X) → IsRanked R xs → IsRanked R (filter test xs)
  ranked_filter test [] h = tt
  ranked_filter test (x ∷ xs) h = by (test x) (ranked_filter test xs h.1)
    where
      by : (b : Bool) → IsRanked R (filter test xs) → IsRanked R (cond b (x ∷ filter test xs) (filter test xs))
      by true ih = (λ y m. h.0 y (filter_among test y xs m).0, ih)
      by false ih = ih

  -- one element put in at an index
  pub ranked_at : (xs : List X) (i : ℕ) (x : X) → IsRanked R xs → ((y : X) → Among y (take i xs) → R y x) → ((y : X) → Among y (drop i xs) → R x y) → IsRanked R (take i xs ++ x ∷ drop i xs)
  ranked_at xs i x h before behind = ranked_insert (take i xs) (drop i xs) x (subst (λ l. IsRanked R l) (sym (take-append-drop i xs)) h) before behind

  -- what an element stands before
  pub ranked_from : (xs : List X) (i : ℕ) (d x : X) → i < length xs → x ≡ get_or xs i d → IsRanked R xs → (y : X) → Among y (drop i xs) → (y ≡ x) ⊎ R x y
  ranked_from xs i d x l is h y m =
      let cut : drop i xs ≡ x ∷ drop (i + 1) xs = subst (λ k. drop i xs ≡ get_or xs i d ∷ drop k xs) (let e : suc i ≡ i + 1 = omega arith in e) (drop-cons xs i d l) ∙ ap (λ h. h ∷ drop (i + 1) xs) (sym is) in
      let rest : IsRanked R (x ∷ drop (i + 1) xs) = subst (λ l. IsRanked R l) cut (ranked_right (take i xs) (drop i xs) (subst (λ l. IsRanked R l) (sym (take-append-drop i xs)) h)) in
      elim (among_cases y x (drop (i + 1) xs) (subst (λ l. Among y l) cut m)) [ inl e ↦ inl e | inr n ↦ inr (rest.0 y n) ]
