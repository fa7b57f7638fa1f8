-- The best of a list under a test of two that is an order, but for ties.
use Rattle.std.specs.Prelude.{◌≡◌, Bool, true, false, List, [], ◌∷◌, Option, Some, None}
use Rattle.std.proofs.Common.{refl, sym, ap, ◌∙◌, subst, inl, inr}
use Rattle.std.proofs.lemmas.Bool.{cases_Bool, cond-true, cond-false}
use Rattle.std.proofs.lemmas.Option.{none-some, same_Some}
use Rattle.ovn_base.proofs.AmongLaws.{among_cases, among_none, among_same}
use Rattle.ovn_base.specs.lists.Among.{Among, here, there}
use Rattle.nb_records.specs.Ways.{best_of, best_by}

-- a test of two is an order, but for ties
pub record IsOrder {X : Type 0} (beats : X → X → Bool) : Type 0 where
  pub other : (x y : X) → beats x y ≡ true → beats y x ≡ false
  pub itself : (x : X) → beats x x ≡ false
  pub along : (x y z : X) → beats x y ≡ false → beats y z ≡ false → beats x z ≡ false

-- it is one of the list, and none of it beats it
pub record IsBestOf {X : Type 0} (beats : X → X → Bool) (xs : List X) (m : X) : Type 0 where
  pub among : Among m xs
  pub unbeaten : (x : X) → Among x xs → beats x m ≡ false

module _ {X : Type 0} (beats : X → X → Bool) where
  pub best_none : (xs : List X) → best_by beats xs ≡ None → (x : X) → Among x xs → ⊥
  best_none [] h x m = among_none x m
  best_none (y ∷ ys) h x m = none-some (best_of beats y (best_by beats ys)) (sym h)

  -- what is found is one of the list
  pub best_among : (xs : List X) (m : X) → best_by beats xs ≡ Some m → Among m xs
  best_among [] m e = absurd (none-some m e)
  best_among (x ∷ xs) m e = by (best_by beats xs) (best_among xs) (same_Some (best_of beats x (best_by beats xs)) m e)
    where
      by : (o : Option X) → ((y : X) → o ≡ Some y → Among y xs) → best_of beats x o ≡ m → Among m (x ∷ xs)
      by None each k = among_same m x xs (sym k)
      by (Some y) each k = elim (cases_Bool (beats y x)) [
        | inl up ↦ there (subst (λ z. Among z xs) (sym (cond-true (beats y x) y x up) ∙ k) (each y refl))
        | inr low ↦ among_same m x xs (sym k ∙ cond-false (beats y x) y x low)
      ]

  module _ (order : IsOrder beats) where
    -- the first of a list, before what is best of the others
    best_at : (x : X) (xs : List X) (m : X) (o : Option X) → best_by beats xs ≡ o → ((k : X) → best_by beats xs ≡ Some k → IsBestOf beats xs k) → best_of beats x o ≡ m → IsBestOf beats (x ∷ xs) m
    best_at x xs m None is each e = subst (λ k. IsBestOf beats (x ∷ xs) k) e (record {
      among = here;
      unbeaten = λ z a. elim (among_cases z x xs a) [ inl one ↦ ap (λ k. beats k x) one ∙ order.itself x | inr other ↦ absurd (best_none xs is z other) ];
    })
    best_at x xs m (Some y) is each e =
        let h = each y is in
        elim (cases_Bool (beats y x)) [
          | inl up ↦ subst (λ k. IsBestOf beats (x ∷ xs) k) (sym (cond-true (beats y x) y x up) ∙ e) (record {
            among = there h.among;
            unbeaten = λ z a. elim (among_cases z x xs a) [ inl one ↦ ap (λ k. beats k y) one ∙ order.other y x up | inr other ↦ h.unbeaten z other ];
          })
          | inr low ↦ subst (λ k. IsBestOf beats (x ∷ xs) k) (sym (cond-false (beats y x) y x low) ∙ e) (record {
            among = here;
            unbeaten = λ z a. elim (among_cases z x xs a) [ inl one ↦ ap (λ k. beats k x) one ∙ order.itself x | inr other ↦ order.along z y x (h.unbeaten z other) low ];
          })
        ]

    -- what is found is best
    pub best_is : (xs : List X) (m : X) → best_by beats xs ≡ Some m → IsBestOf beats xs m
    best_is [] m e = absurd (none-some m e)
    best_is (x ∷ xs) m e = best_at x xs m (best_by beats xs) refl (best_is xs) (same_Some (best_of beats x (best_by beats xs)) m e)
