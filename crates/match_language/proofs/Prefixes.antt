-- The length of the prefix with a mask, from below.
use Rattle.std.specs.Prelude.{◌≡◌, ◌≢◌, ◌<◌, ◌-◌, ◌==◌, ℕ, zero, suc, Bool, true, false, cond, Some, None}
use Rattle.std.proofs.Common.{refl, ap, ◌∙◌, sym, arith}
use Rattle.std.proofs.lemmas.Bool.{cond-true, cond-false}
use Rattle.std.proofs.lemmas.Bool.Decides.{Decides-eqb}
use Rattle.match_language.specs.Constants.{prefix_mask}
use Rattle.match_language.specs.Spelling.{prefix_below}

unequal : (a b : ℕ) (r : Bool) → (a == b) ≡ r → a ≢ b → r ≡ false
unequal a b false e h = refl
unequal a b true e h = absurd (h ((Decides-eqb a b).0 e))

-- no length is below 0
pub below_none : (m : ℕ) → prefix_below 0 m ≡ None
unfolding prefix_below
below_none m = refl

below_suc : (n m : ℕ) → prefix_below (suc n) m ≡ cond (prefix_mask n == m) (Some n) (prefix_below n m)
unfolding prefix_below
below_suc n m = refl

-- the greatest one below n has the mask
pub below_found : (n m : ℕ) → 0 < n → prefix_mask (n - 1) ≡ m → prefix_below n m ≡ Some (n - 1)
below_found n m above e =
    let whole : n ≡ suc (n - 1) = omega arith in
    ap (λ (k : ℕ). prefix_below k m) whole ∙ below_suc (n - 1) m ∙ cond-true (prefix_mask (n - 1) == m) _ _ ((Decides-eqb (prefix_mask (n - 1)) m).1 e)

-- or another one
pub below_passed : (n m : ℕ) → 0 < n → prefix_mask (n - 1) ≢ m → prefix_below n m ≡ prefix_below (n - 1) m
below_passed n m above e =
    let whole : n ≡ suc (n - 1) = omega arith in
    ap (λ (k : ℕ). prefix_below k m) whole ∙ below_suc (n - 1) m ∙ cond-false (prefix_mask (n - 1) == m) _ _ (unequal (prefix_mask (n - 1)) m (prefix_mask (n - 1) == m) refl e)

none_some : (x : ℕ) → None ≡ Some x → ⊥
none_some x e = absurd cc

some_same : (x y : ℕ) → Some x ≡ Some y → x ≡ y
some_same x y e = cc

below_by : (n m len : ℕ) (b : Bool) → (prefix_mask n == m) ≡ b → cond b (Some n) (prefix_below n m) ≡ Some len → (prefix_below n m ≡ Some len → (len < n) × (prefix_mask len ≡ m)) → (len < suc n) × (prefix_mask len ≡ m)
below_by n m len true h e g =
    let same : n ≡ len = some_same n len e in
    (omega (arith, same), ap prefix_mask (sym same) ∙ (Decides-eqb (prefix_mask n) m).0 h)
below_by n m len false h e g = let a = g e in (omega (arith, a.0), a.1)

-- what is found is below n, and has the mask
pub below_is : (n m len : ℕ) → prefix_below n m ≡ Some len → (len < n) × (prefix_mask len ≡ m)
below_is zero m len e = absurd (none_some len (sym (below_none m) ∙ e))
below_is (suc n) m len e = below_by n m len (prefix_mask n == m) refl (sym (below_suc n m) ∙ e) (below_is n m len)
