-- Flows that are read one after another.
use Rattle.std.specs.Prelude.{◌≡◌, ◌++◌, ℕ, zero, suc, List, [], ◌∷◌, Some, None, length, take, slice_get, refl}
use Rattle.std.proofs.Common.{sym, ap, ◌∙◌, arith}
use Rattle.std.proofs.lemmas.List.{length-append}
use Rattle.std.proofs.lemmas.Option.{none-some, same_Some}

module _ {X : Type 0} where
  -- with the next one that is read
  taken_next : (xs : List X) (i : ℕ) (x : X) → slice_get xs i ≡ Some x → take (suc i) xs ≡ take i xs ++ x ∷ []
  taken_next [] i x is = absurd (none-some x is)
  taken_next (y ∷ xs) zero x is = ap (λ z. z ∷ []) (same_Some y x is)
  taken_next (y ∷ xs) (suc i) x is = ap (λ l. y ∷ l) (taken_next xs i x is)

  -- where none is left, all are
  taken_all : (xs : List X) (i : ℕ) → slice_get xs i ≡ None → take i xs ≡ xs
  taken_all [] zero none = refl
  taken_all [] (suc i) none = refl
  taken_all (y ∷ xs) zero none = absurd (none-some y (sym none))
  taken_all (y ∷ xs) (suc i) none = ap (λ l. y ∷ l) (taken_all xs i none)

  -- those so far are read, and so is the next
  pub read_more : (xs so_far longer : List X) (x : X) → so_far ≡ take (length so_far) xs → Some x ≡ slice_get xs (length so_far) → longer ≡ so_far ++ x ∷ [] → longer ≡ take (length longer) xs
  read_more xs so_far longer x are is longer_is =
      let n : length longer ≡ suc (length so_far) = ap length longer_is ∙ length-append so_far (x ∷ []) ∙ omega arith in
      longer_is ∙ ap (λ l. l ++ x ∷ []) are ∙ sym (taken_next xs (length so_far) x (sym is)) ∙ ap (λ k. take k xs) (sym n)

  pub read_all : (xs so_far : List X) → so_far ≡ take (length so_far) xs → None ≡ slice_get xs (length so_far) → so_far ≡ xs
  read_all xs so_far are none = are ∙ taken_all xs (length so_far) (sym none)

  -- nothing is there where there is no first
  pub none_first : (xs : List X) → None ≡ slice_get xs 0 → xs ≡ []
  none_first [] none = refl
  none_first (y ∷ xs) none = absurd (none-some y none)
