-- One flow more or less.
use Rattle.std.proofs.Common.{◌≡◌, ◌∙◌, ◌+◌, ℕ, refl, sym, ap, subst, arith, Bool, true, false, cond, ◌||◌, List, [], ◌∷◌, Some, unwrap_or}
use Prim.Native.Nat.{zero, suc}
use Rattle.std.proofs.lemmas.Bool.{false≢true}
use Rattle.std.proofs.lemmas.Map.Keys.{IsDistinct-head}
use Rattle.std.proofs.lemmas.Map.Steps.{list_any_congr}
use Rattle.std.specs.Cmp.{IsEquivalence}
use Rattle.std.specs.List.{IsDistinct, AllByRecursion, list_any}
use Rattle.std.specs.Map.{lookup}
use Rattle.std.specs.Set.{is_member}
use Rattle.flow_refs.specs.Counts.{bit, positive, number_of, new_number_of}
use Rattle.flow_refs.proofs.Lookups.{found_alike}

-- a kept number is the number
pub positive_back : (n : ℕ) → unwrap_or (positive n) 0 ≡ n
positive_back zero = refl
positive_back (suc n) = refl

or_true : (b : Bool) → (b || true) ≡ true
or_true true = refl
or_true false = refl

none_passes : {X : Type 0} (test : X → Bool) (xs : List X) → AllByRecursion (λ x. test x ≡ false) xs → list_any test xs ≡ false
none_passes test [] h = refl
none_passes test (x ∷ xs) h = ap (λ b. b || list_any test xs) h.0 ∙ none_passes test xs h.1

module _ {F : Type 0} {eq : F → F → Bool} (laws : IsEquivalence eq) (counts old new : List (F × ℕ)) (x : F) (number : ℕ)
    (set : (q : F) → lookup (eq q) new ≡ cond (eq x q) (Some number) (lookup (eq q) old)) (rest : List F) (once : IsDistinct eq (x ∷ rest)) where
  number_there : (q : F) → eq x q ≡ true → new_number_of eq new counts q ≡ number
  number_there q same = ap (λ o. unwrap_or o (number_of eq counts q)) (set q ∙ ap (λ b. cond b (Some number) (lookup (eq q) old)) same)

  number_elsewhere : (q : F) → eq x q ≡ false → new_number_of eq new counts q ≡ new_number_of eq old counts q
  number_elsewhere q apart = ap (λ o. unwrap_or o (number_of eq counts q)) (set q ∙ ap (λ b. cond b (Some number) (lookup (eq q) old)) apart)

  number_alike : (q : F) → eq x q ≡ true → new_number_of eq old counts q ≡ new_number_of eq old counts x
  number_alike q same =
      let over = sym (found_alike laws x q same old) in
      let under = sym (found_alike laws x q same counts) in
      λ i. unwrap_or (over i) (unwrap_or (under i) 0)

  -- an equal flow isn't behind
  alone : (q : F) → eq x q ≡ true → is_member eq rest q ≡ false
  alone q same = list_any_congr laws q x rest (laws.symm q x ∙ same) ∙ none_passes (eq x) rest (IsDistinct-head eq x rest once)

  behind : (q : F) → is_member eq rest q ≡ true → eq x q ≡ false
  behind q m = by (eq x q) refl
    where
      by : (b : Bool) → eq x q ≡ b → b ≡ false
      by true same = absurd (false≢true (sym (alone q same) ∙ m))
      by false apart = refl

  -- the numbers of the others stay
  pub others : (P : ℕ → Type 0) → ((q : F) → is_member eq (x ∷ rest) q ≡ true → P (new_number_of eq old counts q)) → (q : F) → is_member eq rest q ≡ true → P (new_number_of eq new counts q)
  others P h q m = subst P (sym (number_elsewhere q (behind q m))) (h q (ap (λ b. eq q x || b) m ∙ or_true (eq q x)))

  -- one less
  pub lower_one : new_number_of eq old counts x ≡ number + 1 → (q : F) (n : ℕ) → n + bit (is_member eq rest q) ≡ new_number_of eq new counts q → n + bit (is_member eq (x ∷ rest) q) ≡ new_number_of eq old counts q
  lower_one one q n h = by (eq x q) refl
    where
      by : (b : Bool) → eq x q ≡ b → n + bit (is_member eq (x ∷ rest) q) ≡ new_number_of eq old counts q
      by true same =
          let head : bit (is_member eq (x ∷ rest) q) ≡ 1 = ap (λ b. bit (b || is_member eq rest q)) (laws.symm q x ∙ same) in
          let tail : bit (is_member eq rest q) ≡ 0 = ap bit (alone q same) in
          let there = number_there q same in
          let alike = number_alike q same in
          omega arith
      by false apart =
          let head : bit (is_member eq (x ∷ rest) q) ≡ bit (is_member eq rest q) = ap (λ b. bit (b || is_member eq rest q)) (laws.symm q x ∙ apart) in
          let there = number_elsewhere q apart in
          omega arith

  -- one more
  pub raise_one : number ≡ new_number_of eq old counts x + 1 → (q : F) → new_number_of eq new counts q + bit (is_member eq rest q) ≡ new_number_of eq old counts q + bit (is_member eq (x ∷ rest) q)
  raise_one one q = by (eq x q) refl
    where
      by : (b : Bool) → eq x q ≡ b → new_number_of eq new counts q + bit (is_member eq rest q) ≡ new_number_of eq old counts q + bit (is_member eq (x ∷ rest) q)
      by true same =
          let head : bit (is_member eq (x ∷ rest) q) ≡ 1 = ap (λ b. bit (b || is_member eq rest q)) (laws.symm q x ∙ same) in
          let tail : bit (is_member eq rest q) ≡ 0 = ap bit (alone q same) in
          let there = number_there q same in
          let alike = number_alike q same in
          omega arith
      by false apart =
          let head : bit (is_member eq (x ∷ rest) q) ≡ bit (is_member eq rest q) = ap (λ b. bit (b || is_member eq rest q)) (laws.symm q x ∙ apart) in
          let there = number_elsewhere q apart in
          omega arith
