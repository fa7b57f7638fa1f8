-- Laws of the numbers of masks.
use Rattle.std.specs.Prelude.{◌≡◌, ◌<◌, ◌≤◌, ◌+◌, ℕ, Bool, true, false, cond, not, ◌||◌, List, [], ◌∷◌, ◌++◌, Some, None, length, nat_lt, slice_get, is_some, position, suc, refl}
use mathlib.Core.Path.{ap, sym, subst, ◌∙◌}
use mathlib.Core.Logic.{inl, inr}
use native.Mathlib.Omega.{arith}
use Rattle.std.proofs.lemmas.Bool.{false≢true, ltb-false}
use Rattle.std.specs.List.{list_any, position_or_len}
use Rattle.indexmap.specs.IndexSet.{insert_key}
use Rattle.ovn_base.proofs.AmongLaws.{among_append, among_cases, among_none}
use Rattle.tuple_space.specs.declared.mask.Mask.{Mask}
use Rattle.tuple_space.specs.Space.{same_mask, mask_number, AreFew}
use Rattle.tuple_space.specs.Same.{mask_exact, mask_own}

-- a mask that has a number keeps it where others come behind
pub number_stays : (ms more : List Mask) (m : Mask) → mask_number ms m < length ms → (mask_number (ms ++ more) m ≡ mask_number ms m) × (mask_number (ms ++ more) m < length (ms ++ more))
number_stays [] more m h = absurd (omega (arith, h))
number_stays (n ∷ ms) more m h = by (same_mask n m) h (number_stays ms more m)
  where
    by : (b : Bool) → cond b 0 (mask_number ms m + 1) < suc (length ms) → (mask_number ms m < length ms → (mask_number (ms ++ more) m ≡ mask_number ms m) × (mask_number (ms ++ more) m < length (ms ++ more))) → (cond b 0 (mask_number (ms ++ more) m + 1) ≡ cond b 0 (mask_number ms m + 1)) × (cond b 0 (mask_number (ms ++ more) m + 1) < suc (length (ms ++ more)))
    by true l ih = (refl, omega arith)
    by false l ih = let r = ih (omega (arith, l)) in (ap (λ k. k + 1) r.0, omega (arith, r.1))

-- a mask that has none gets the next
pub number_new : (ms : List Mask) (m : Mask) → length ms ≤ mask_number ms m → (mask_number (ms ++ m ∷ []) m ≡ mask_number ms m) × (mask_number ms m < length (ms ++ m ∷ []))
number_new [] m h = (ap (λ (b : Bool). cond b 0 1) (mask_own m), omega arith)
number_new (n ∷ ms) m h = by (same_mask n m) h (number_new ms m)
  where
    by : (b : Bool) → suc (length ms) ≤ cond b 0 (mask_number ms m + 1) → (length ms ≤ mask_number ms m → (mask_number (ms ++ m ∷ []) m ≡ mask_number ms m) × (mask_number ms m < length (ms ++ m ∷ []))) → (cond b 0 (mask_number (ms ++ m ∷ []) m + 1) ≡ cond b 0 (mask_number ms m + 1)) × (cond b 0 (mask_number ms m + 1) < suc (length (ms ++ m ∷ [])))
    by true l ih = absurd (omega (arith, l))
    by false l ih = let r = ih (omega (arith, l)) in (ap (λ k. k + 1) r.0, omega (arith, r.1))

-- the mask of a number
pub number_get : (ms : List Mask) (m : Mask) → mask_number ms m < length ms → slice_get ms (mask_number ms m) ≡ Some m
number_get [] m h = absurd (omega (arith, h))
number_get (n ∷ ms) m h = by (same_mask n m) refl h (number_get ms m)
  where
    by : (b : Bool) → same_mask n m ≡ b → cond b 0 (mask_number ms m + 1) < suc (length ms) → (mask_number ms m < length ms → slice_get ms (mask_number ms m) ≡ Some m) → slice_get (n ∷ ms) (cond b 0 (mask_number ms m + 1)) ≡ Some m
    by true s l ih = ap (λ x. Some x) (mask_exact n m s)
    by false s l ih = ap (λ k. slice_get (n ∷ ms) k) (let e : mask_number ms m + 1 ≡ suc (mask_number ms m) = omega arith in e) ∙ ih (omega (arith, l))

-- masks are the same, whichever of them stands first
turned : (m n : Mask) → same_mask m n ≡ same_mask n m
turned m n = by (same_mask m n) (same_mask n m) refl refl
  where
    by : (a b : Bool) → same_mask m n ≡ a → same_mask n m ≡ b → a ≡ b
    by true true h k = refl
    by false false h k = refl
    by true false h k = absurd (false≢true (sym k ∙ subst (λ x. same_mask x m ≡ true) (mask_exact m n h) (mask_own m)))
    by false true h k = absurd (false≢true (sym h ∙ subst (λ x. same_mask x n ≡ true) (mask_exact n m k) (mask_own n)))

-- the number is the first place of the mask
number_place : (ms : List Mask) (m : Mask) → position_or_len (same_mask m) ms ≡ mask_number ms m
number_place [] m = refl
number_place (n ∷ ms) m = ap (λ b. cond (not b) (1 + position_or_len (same_mask m) ms) 0) (turned m n) ∙ by (same_mask n m) (number_place ms m)
  where
    by : (b : Bool) → position_or_len (same_mask m) ms ≡ mask_number ms m → cond (not b) (1 + position_or_len (same_mask m) ms) 0 ≡ cond b 0 (mask_number ms m + 1)
    by true e = refl
    by false e = omega (arith, e)

number_within : (ms : List Mask) (m : Mask) → mask_number ms m ≤ length ms
number_within [] m = omega arith
number_within (n ∷ ms) m = by (same_mask n m) (number_within ms m)
  where
    by : (b : Bool) → mask_number ms m ≤ length ms → cond b 0 (mask_number ms m + 1) ≤ suc (length ms)
    by true l = omega arith
    by false l = omega (arith, l)

-- where the mask is found, its place is its number
pub number_found : (ms : List Mask) (m : Mask) (i : ℕ) → position (same_mask m) ms ≡ Some i → i ≡ mask_number ms m
number_found ms m i h = by (nat_lt (position_or_len (same_mask m) ms) (length ms)) h ∙ number_place ms m
  where
    by : (b : Bool) → cond b (Some (position_or_len (same_mask m) ms)) None ≡ Some i → i ≡ position_or_len (same_mask m) ms
    by true e = sym (ap (λ o. elim o [ None ↦ i | Some k ↦ k ]) e)
    by false e = absurd (false≢true (ap is_some e))

-- where it isn't found, its number is how many there are
pub number_missing : (ms : List Mask) (m : Mask) → position (same_mask m) ms ≡ None → length ms ≡ mask_number ms m
number_missing ms m h =
    let place = number_place ms m in
    let within = number_within ms m in
    let far = by (nat_lt (position_or_len (same_mask m) ms) (length ms)) refl h in
    omega (arith, place, within, far)
  where
    by : (b : Bool) → nat_lt (position_or_len (same_mask m) ms) (length ms) ≡ b → cond b (Some (position_or_len (same_mask m) ms)) None ≡ None → length ms ≤ position_or_len (same_mask m) ms
    by true l e = absurd (false≢true (sym (ap is_some e)))
    by false l e = ltb-false (position_or_len (same_mask m) ms) (length ms) l

none_same : (ms : List Mask) (m : Mask) → length ms ≤ mask_number ms m → list_any (same_mask m) ms ≡ false
none_same [] m h = refl
none_same (n ∷ ms) m h = ap (λ b. b || list_any (same_mask m) ms) (turned m n) ∙ by (same_mask n m) h (none_same ms m)
  where
    by : (b : Bool) → suc (length ms) ≤ cond b 0 (mask_number ms m + 1) → (length ms ≤ mask_number ms m → list_any (same_mask m) ms ≡ false) → (b || list_any (same_mask m) ms) ≡ false
    by true l ih = absurd (omega (arith, l))
    by false l ih = ih (omega (arith, l))

-- a mask that has no number goes last
pub number_last : (ms : List Mask) (m : Mask) → length ms ≤ mask_number ms m → insert_key same_mask ms m ≡ ms ++ m ∷ []
number_last ms m h = ap (λ (b : Bool). cond b ms (ms ++ m ∷ [])) (none_same ms m h)

-- one more mask that asks for few fields
pub few_more : (ms : List Mask) (m : Mask) → AreFew ms → length m.asks ≤ 30 → AreFew (ms ++ m ∷ [])
few_more ms m few h = λ n k. elim (among_append n ms (m ∷ []) k) [
  | inl a ↦ few n a
  | inr b ↦ elim (among_cases n m [] b) [ inl e ↦ subst (λ (x : Mask). length x.asks ≤ 30) (sym e) h | inr z ↦ absurd (among_none n z) ]
]
