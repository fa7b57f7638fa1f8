-- The order of two texts, followed byte by byte.
use Rattle.std.specs.Prelude.{◌≡◌, ◌≢◌, ℕ, zero, suc, ◌+◌, ◌<◌, ◌≤◌, ◌⊎◌, List, [], ◌∷◌, length}
use Rattle.std.specs.Cmp.Lexicographic.{slice_cmp}
use Rattle.std.specs.Ordering.{nat_cmp}
use Rattle.std.proofs.Common.{arith, ◌∙◌, sym, inl, inr, drop, get_or}
use Rattle.std.proofs.lemmas.Bool.Decides.{nat_tests}
use Rattle.std.proofs.lemmas.List.{drop_more}

both_begin : (x y : ℕ) (xs ys : List ℕ) → x ≡ y → slice_cmp nat_cmp (x ∷ xs) (y ∷ ys) ≡ slice_cmp nat_cmp xs ys
both_begin x y xs ys same = grind (arith, nat_tests)

one_decides : (x y : ℕ) (xs ys : List ℕ) → x ≢ y → slice_cmp nat_cmp (x ∷ xs) (y ∷ ys) ≡ nat_cmp x y
one_decides x y xs ys other = grind (arith, nat_tests)

one_more : (a b : ℕ) → nat_cmp (suc a) (suc b) ≡ nat_cmp a b
one_more a b = grind (arith, nat_tests)

-- the same byte decides nothing
pub order_more : (xs ys : List ℕ) (i : ℕ) → i < length xs → i < length ys → get_or xs i 0 ≡ get_or ys i 0 → slice_cmp nat_cmp (drop i xs) (drop i ys) ≡ slice_cmp nat_cmp (drop (i + 1) xs) (drop (i + 1) ys)
order_more xs ys i left right same = rw (drop_more xs i 0 left, drop_more ys i 0 right) (both_begin (get_or xs i 0) (get_or ys i 0) (drop (i + 1) xs) (drop (i + 1) ys) same)

-- another byte decides
pub order_here : (xs ys : List ℕ) (i : ℕ) → i < length xs → i < length ys → get_or xs i 0 ≢ get_or ys i 0 → slice_cmp nat_cmp (drop i xs) (drop i ys) ≡ nat_cmp (get_or xs i 0) (get_or ys i 0)
order_here xs ys i left right other = rw (drop_more xs i 0 left, drop_more ys i 0 right) (one_decides (get_or xs i 0) (get_or ys i 0) (drop (i + 1) xs) (drop (i + 1) ys) other)

-- at the end of a text the lengths decide
pub order_behind : (xs ys : List ℕ) (i : ℕ) → i ≤ length xs → i ≤ length ys → (i ≡ length xs) ⊎ (i ≡ length ys) → slice_cmp nat_cmp (drop i xs) (drop i ys) ≡ nat_cmp (length xs) (length ys)
order_behind [] [] i left right end = grind (arith, nat_tests)
order_behind [] (y ∷ ys) zero left right end = grind (arith, nat_tests)
order_behind [] (y ∷ ys) (suc i) left right end = absurd (omega (arith, left))
order_behind (x ∷ xs) [] zero left right end = grind (arith, nat_tests)
order_behind (x ∷ xs) [] (suc i) left right end = absurd (omega (arith, right))
order_behind (x ∷ xs) (y ∷ ys) zero left right end = absurd (elim end [ inl e ↦ omega (arith, e) | inr e ↦ omega (arith, e) ])
order_behind (x ∷ xs) (y ∷ ys) (suc i) left right end =
    let before = order_behind xs ys i (omega (arith, left)) (omega (arith, right)) (elim end [ inl e ↦ inl (omega (arith, e)) | inr e ↦ inr (omega (arith, e)) ]) in
    before ∙ sym (one_more (length xs) (length ys))
