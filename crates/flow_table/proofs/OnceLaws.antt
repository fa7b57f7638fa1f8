-- Laws of lists that have each of their elements once.
use Rattle.std.specs.Prelude.{◌≡◌, ◌↔◌, Bool, true, false, not, cond, List, [], ◌∷◌, ◌++◌, map, filter, refl}
use mathlib.Core.Path.{sym, subst}
use mathlib.Core.Logic.{inl, inr}
use Rattle.std.proofs.lemmas.Bool.{false≢true}
use Rattle.std.specs.List.{list_any}
use Rattle.ovn_base.specs.lists.Among.{Among, here, there}
use Rattle.ovn_base.specs.lists.Once.{EachOnce}
use Rattle.ovn_base.proofs.AmongLaws.{among_append, among_map, among_cases, among_left, among_right, map_among, among_filter, filter_among, among_any, any_among, among_none}

module _ {X : Type 0} where
  -- one list behind another, with no element in common
  pub once_append : (xs ys : List X) → EachOnce xs → EachOnce ys → ((x : X) → Among x xs → ¬ Among x ys) → EachOnce (xs ++ ys)
  once_append [] ys a b apart = b
  once_append (x ∷ xs) ys a b apart = (
    λ m. elim (among_append x xs ys m) [ inl l ↦ a.0 l | inr r ↦ apart x here r ],
    once_append xs ys a.1 b (λ y m. apart y (there m)),
  )

  -- one element behind a list that doesn't have it
  pub once_push : (xs : List X) (x : X) → EachOnce xs → ¬ Among x xs → EachOnce (xs ++ x ∷ [])
  once_push xs x a fresh =
      once_append xs (x ∷ []) a (λ m. among_none x m, tt)
      (λ y m n. elim (among_cases y x [] n) [ inl e ↦ fresh (subst (λ z. Among z xs) e m) | inr k ↦ among_none y k ])

  -- the parts of a list
  pub append_once_left : (xs ys : List X) → EachOnce (xs ++ ys) → EachOnce xs
  append_once_left [] ys h = tt
  append_once_left (x ∷ xs) ys h = (λ m. h.0 (among_left x xs ys m), append_once_left xs ys h.1)

  pub append_once_right : (xs ys : List X) → EachOnce (xs ++ ys) → EachOnce ys
  append_once_right [] ys h = h
  append_once_right (x ∷ xs) ys h = append_once_right xs ys h.1

  pub append_once_apart : (xs ys : List X) → EachOnce (xs ++ ys) → (x : X) → Among x xs → ¬ Among x ys
  append_once_apart [] ys h x m n = among_none x m
  append_once_apart (y ∷ xs) ys h x m n =
      elim (among_cases x y xs m) [ inl e ↦ h.0 (among_right y xs ys (subst (λ z. Among z ys) e n)) | inr a ↦ append_once_apart xs ys h.1 x a n ]

  -- those that pass a test
  pub once_filter : (test : X → Bool) (xs : List X) → EachOnce xs → EachOnce (filter test xs)
  once_filter test [] h = tt
  once_filter test (x ∷ xs) h = by (test x) (once_filter test xs h.1)
    where
      by : (b : Bool) → EachOnce (filter test xs) → EachOnce (cond b (x ∷ filter test xs) (filter test xs))
      by true ih = (λ m. h.0 (filter_among test x xs m).0, ih)
      by false ih = ih

  -- those that are in no list of others, by a test that answers for sameness
  pub kept_outside : (E : X → X → Bool) → ((x y : X) → (E x y ≡ true) ↔ (x ≡ y)) → (gone xs : List X) (x : X) → Among x (filter (λ z. not (list_any (λ y. E y z) gone)) xs) ↔ (Among x xs × ¬ Among x gone)
  kept_outside E exact gone xs x = (
    λ m. let r = filter_among (λ z. not (list_any (λ y. E y z) gone)) x xs m in (r.0, λ n. not_both (list_any (λ y. E y x) gone) r.1 (among_any (λ y. E y x) x gone n ((exact x x).1 refl))),
    λ p. among_filter (λ z. not (list_any (λ y. E y z) gone)) x xs p.0 (none_such (list_any (λ y. E y x) gone) (λ h. let r = any_among (λ y. E y x) gone h in p.1 (subst (λ z. Among z gone) ((exact r.0 x).0 r.2) r.1))),
  )
    where
      not_both : (b : Bool) → not b ≡ true → b ≡ true → ⊥
      not_both true h e = false≢true h
      not_both false h e = false≢true e

      none_such : (b : Bool) → ¬ (b ≡ true) → not b ≡ true
      none_such true h = absurd (h refl)
      none_such false h = refl

module _ {X Y : Type 0} where
  -- images by a function that sends no two elements of the list to one value
  pub once_map : (f : X → Y) (xs : List X) → EachOnce xs → ((x y : X) → Among x xs → Among y xs → f x ≡ f y → x ≡ y) → EachOnce (map f xs)
  once_map f [] h apart = tt
  once_map f (x ∷ xs) h apart = (
    λ m. let r = map_among f (f x) xs m in h.0 (subst (λ z. Among z xs) (sym (apart x r.0 here (there r.1) r.2)) r.1),
    once_map f xs h.1 (λ y z m n e. apart y z (there m) (there n) e),
  )

  -- elements whose images stand once each
  pub once_from_map : (f : X → Y) (xs : List X) → EachOnce (map f xs) → EachOnce xs
  once_from_map f [] h = tt
  once_from_map f (x ∷ xs) h = (λ m. h.0 (among_map f x xs m), once_from_map f xs h.1)
