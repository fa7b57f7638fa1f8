-- Filtering a list from a place on.
use Rattle.std.specs.Prelude.{◌≡◌, ◌<◌, ◌+◌, ◌-◌, ℕ, zero, suc, Bool, cond, List, ◌∷◌, length, slice_get, refl}
use Rattle.std.specs.List.{filter}
use Rattle.std.proofs.Common.{arith, ap, ◌∙◌, drop, get_or}
use Rattle.std.proofs.lemmas.List.{drop_more}

module _ {X : Type 0} (test : X → Bool) (xs : List X) (i : ℕ) (x : X) (h : i < length xs) where
  -- the one at the place passes, or not
  pub filter_from : (b : Bool) → test (get_or xs i x) ≡ b → filter test (drop i xs) ≡ cond b (get_or xs i x ∷ filter test (drop (i + 1) xs)) (filter test (drop (i + 1) xs))
  filter_from b is = ap (filter test) (drop_more xs i x h) ∙ ap (λ c. cond c (get_or xs i x ∷ filter test (drop (i + 1) xs)) (filter test (drop (i + 1) xs))) is

-- past the first of a list
pub past_first : {X : Type 0} (x : X) (xs : List X) (n : ℕ) → (n ≡ 0 → ⊥) → slice_get (x ∷ xs) n ≡ slice_get xs (n - 1)
past_first x xs zero h = absurd (h refl)
past_first x xs (suc n) h = ap (slice_get xs) (omega arith)
