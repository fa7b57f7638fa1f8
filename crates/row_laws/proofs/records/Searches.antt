-- What searches of lists find where one element alone has something to find.
use Rattle.std.specs.Prelude.{◌≡◌, Bool, true, false, cond, List, [], ◌∷◌, Option, Some, None, refl}
use Rattle.std.specs.List.{find}
use Rattle.std.proofs.Common.{sym, ap, ◌∙◌, subst, inl, inr}
use Rattle.std.proofs.lemmas.Bool.{false≢true}
use Rattle.std.proofs.lemmas.Option.{none-some, same_Some}
use Rattle.ovn_base.proofs.AmongLaws.{among_cases, among_none}
use Rattle.ovn_base.specs.lists.Among.{Among, here, there}
use Rattle.nb_records.specs.Switches.{or_else, first_answer}

module _ {A X : Type 0} (f : X → Option A) where
  abbrev Answers : List X → A → Type 0
  Answers xs a = (x : X) × Among x xs × (f x ≡ Some a)

  answered_at : (y : X) (ys : List X) (a : A) (o : Option A) → f y ≡ o → (first_answer f ys ≡ Some a → Answers ys a) → or_else o (first_answer f ys) ≡ Some a → Answers (y ∷ ys) a
  answered_at y ys a None is rest h = let r = rest h in (r.0, there r.1, r.2)
  answered_at y ys a (Some b) is rest h = (y, here, is ∙ h)

  -- an answer is one of an element
  pub answered_by : (xs : List X) (a : A) → first_answer f xs ≡ Some a → Answers xs a
  answered_by [] a h = absurd (none-some a h)
  answered_by (y ∷ ys) a h = answered_at y ys a (f y) refl (answered_by ys a) h

  pub no_answer : (xs : List X) → ((x : X) (a : A) → Among x xs → f x ≡ Some a → ⊥) → first_answer f xs ≡ None
  no_answer xs none = by (first_answer f xs) refl
    where
      by : (o : Option A) → first_answer f xs ≡ o → o ≡ None
      by None is = refl
      by (Some a) is = let r = answered_by xs a is in absurd (none r.0 a r.1 r.2)

  some_at : (x : X) (a : A) → f x ≡ Some a → (y : X) (ys : List X) → Among x (y ∷ ys) → (o : Option A) → f y ≡ o → (Among x ys → first_answer f ys ≡ None → ⊥) → or_else o (first_answer f ys) ≡ None → ⊥
  some_at x a h y ys m None is rest k = elim (among_cases x y ys m) [ inl e ↦ none-some a (sym is ∙ ap f (sym e) ∙ h) | inr l ↦ rest l k ]
  some_at x a h y ys m (Some b) is rest k = none-some b (sym k)

  some_answer : (x : X) (a : A) → f x ≡ Some a → (xs : List X) → Among x xs → first_answer f xs ≡ None → ⊥
  some_answer x a h [] m k = among_none x m
  some_answer x a h (y ∷ ys) m k = some_at x a h y ys m (f y) refl (some_answer x a h ys) k

  -- where one element alone has an answer, that is it
  pub one_answer : (xs : List X) (x : X) (a : A) → Among x xs → f x ≡ Some a → ((y : X) (b : A) → Among y xs → f y ≡ Some b → y ≡ x) → first_answer f xs ≡ Some a
  one_answer xs x a m h alone = by (first_answer f xs) refl
    where
      by : (o : Option A) → first_answer f xs ≡ o → o ≡ Some a
      by None is = absurd (some_answer x a h xs m is)
      by (Some b) is = let r = answered_by xs b is in sym r.2 ∙ ap f (alone r.0 b r.1 r.2) ∙ h

module _ {X : Type 0} (test : X → Bool) where
  found_at : (y : X) (ys : List X) (a : X) (b : Bool) → test y ≡ b → (find test ys ≡ Some a → Among a ys × (test a ≡ true)) → cond b (Some y) (find test ys) ≡ Some a → Among a (y ∷ ys) × (test a ≡ true)
  found_at y ys a true is rest h = let e = same_Some y a h in (subst (λ x. Among x (y ∷ ys)) e here, ap test (sym e) ∙ is)
  found_at y ys a false is rest h = let r = rest h in (there r.0, r.1)

  pub found_by : (xs : List X) (a : X) → find test xs ≡ Some a → Among a xs × (test a ≡ true)
  found_by [] a h = absurd (none-some a h)
  found_by (y ∷ ys) a h = found_at y ys a (test y) refl (found_by ys a) h

  pub none_found : (xs : List X) → ((x : X) → Among x xs → test x ≡ true → ⊥) → find test xs ≡ None
  none_found xs none = by (find test xs) refl
    where
      by : (o : Option X) → find test xs ≡ o → o ≡ None
      by None is = refl
      by (Some a) is = let r = found_by xs a is in absurd (none a r.0 r.1)

  some_found_at : (x : X) → test x ≡ true → (y : X) (ys : List X) → Among x (y ∷ ys) → (b : Bool) → test y ≡ b → (Among x ys → find test ys ≡ None → ⊥) → cond b (Some y) (find test ys) ≡ None → ⊥
  some_found_at x h y ys m true is rest k = none-some y (sym k)
  some_found_at x h y ys m false is rest k = elim (among_cases x y ys m) [ inl e ↦ false≢true (sym is ∙ ap test (sym e) ∙ h) | inr l ↦ rest l k ]

  some_found : (x : X) → test x ≡ true → (xs : List X) → Among x xs → find test xs ≡ None → ⊥
  some_found x h [] m k = among_none x m
  some_found x h (y ∷ ys) m k = some_found_at x h y ys m (test y) refl (some_found x h ys) k

  -- where one element alone passes, it is found
  pub one_found : (xs : List X) (x : X) → Among x xs → test x ≡ true → ((y : X) → Among y xs → test y ≡ true → y ≡ x) → find test xs ≡ Some x
  one_found xs x m h alone = by (find test xs) refl
    where
      by : (o : Option X) → find test xs ≡ o → o ≡ Some x
      by None is = absurd (some_found x h xs m is)
      by (Some a) is = let r = found_by xs a is in ap (λ y. Some y) (alone a r.0 r.1)
