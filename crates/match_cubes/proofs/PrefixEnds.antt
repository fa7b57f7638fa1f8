-- Prefixes of `<=` and `>=` by those of `<` and `>`, and of bounds at the ends of the field and behind.
use Rattle.std.specs.Prelude.{◌≡◌, ◌≢◌, ◌⊎◌, ◌≤◌, ◌<◌, ℕ, zero, suc, ◌+◌, ◌-◌, ◌*◌, ◌/◌, ◌%◌, ◌^◌, Bool, true, false, ◌&&◌, cond, List, [], ◌∷◌, ◌++◌, length, count_ones}
use Rattle.std.proofs.Common.{refl, sym, ap, ◌∙◌, subst, arith, inl, inr, append-nil}
use Rattle.std.proofs.lemmas.Bool.{and_from, lt-ltb, le-ltb, le-leb, lt-leb, cases_lt}
use Rattle.std.proofs.lemmas.Bool.Decides.{nat_tests}
use Rattle.std.proofs.lemmas.Nat.{pow_pos, pow_below, shr_split, mod_below, one_shl}
use Rattle.inet_packet.specs.declared.cube.Bits.{Bits}
use Rattle.match_language.specs.declared.expr.Rel.{Rel}
use Rattle.match_language.specs.declared.expr.Rel.TheVariants as r
use Rattle.match_cubes.specs.Prefixes.{relates, lies, prefix, largest, prefixes}
use Rattle.match_cubes.proofs.PrefixLaws.{none_above}
use Rattle.match_cubes.proofs.PrefixSteps.{whole_is, nothing_is, less_count, greater_count}

-- ---- one relation by another

module _ (rel sel : Rel) (v u : ℕ) (alike : (n : ℕ) → relates rel n v ≡ relates sel n u) where
  lies_alike : (i p : ℕ) → lies rel v i p ≡ lies sel u i p
  lies_alike i p =
      ap (λ (b : Bool). b && relates rel (p * 2 ^ i + (2 ^ i - 1)) v) (alike (p * 2 ^ i))
      ∙ ap (λ (b : Bool). relates sel (p * 2 ^ i) u && b) (alike (p * 2 ^ i + (2 ^ i - 1)))

  largest_alike : (w i p : ℕ) → largest w rel v i p ≡ largest w sel u i p
  unfolding largest
  largest_alike w zero p = ap (λ (b : Bool). cond b (prefix w 0 p ∷ []) []) (lies_alike 0 p)
  largest_alike w (suc i) p =
      ap (λ (b : Bool). cond b (prefix w (suc i) p ∷ []) (largest w rel v i (2 * p) ++ largest w rel v i (2 * p + 1))) (lies_alike (suc i) p)
      ∙ ap (λ (xs : List Bits). cond (lies sel u (suc i) p) (prefix w (suc i) p ∷ []) (xs ++ largest w rel v i (2 * p + 1))) (largest_alike w i (2 * p))
      ∙ ap (λ (xs : List Bits). cond (lies sel u (suc i) p) (prefix w (suc i) p ∷ []) (largest w sel u i (2 * p) ++ xs)) (largest_alike w i (2 * p + 1))

  prefixes_alike : (w : ℕ) → prefixes w rel v ≡ prefixes w sel u
  unfolding prefixes
  prefixes_alike w = largest_alike w w 0

less_alike : (v n : ℕ) → relates r.Lt n (v + 1) ≡ relates r.Le n v
less_alike v n = grind (arith, nat_tests)

greater_alike : (v n : ℕ) → relates r.Gt n v ≡ relates r.Ge n (v + 1)
greater_alike v n = grind (arith, nat_tests)

pub at_most_is : (w v : ℕ) → prefixes w r.Lt (v + 1) ≡ prefixes w r.Le v
at_most_is w v = prefixes_alike r.Lt r.Le (v + 1) v (less_alike v) w

pub at_least_is : (w v : ℕ) → prefixes w r.Gt v ≡ prefixes w r.Ge (v + 1)
at_least_is w v = prefixes_alike r.Gt r.Ge v (v + 1) (greater_alike v) w

pub at_least_back : (w v : ℕ) → 0 < v → prefixes w r.Gt (v - 1) ≡ prefixes w r.Ge v
at_least_back w v h = at_least_is w (v - 1) ∙ ap (λ (k : ℕ). prefixes w r.Ge k) (omega arith)

-- ---- all numbers, and none

zero_times : (m : ℕ) → 0 ≡ 0 * m
zero_times m = omega arith

zero_plus : (m : ℕ) → m ≡ 0 + m
zero_plus m = omega arith

all_is : (w : ℕ) (rel : Rel) (v : ℕ) → relates rel 0 v ≡ true → relates rel (2 ^ w - 1) v ≡ true → prefixes w rel v ≡ prefix w w 0 ∷ []
unfolding prefixes
all_is w rel v low high =
    whole_is w rel v w 0 (and_from (relates rel (0 * 2 ^ w) v) (relates rel (0 * 2 ^ w + (2 ^ w - 1)) v) (subst (λ (k : ℕ). relates rel k v ≡ true) (zero_times (2 ^ w)) low) (subst (λ (k : ℕ). relates rel (k + (2 ^ w - 1)) v ≡ true) (zero_times (2 ^ w)) (subst (λ (k : ℕ). relates rel k v ≡ true) (zero_plus (2 ^ w - 1)) high)))

none_is : (w : ℕ) (rel : Rel) (v : ℕ) → ((n : ℕ) → n < 2 ^ w → relates rel n v ≡ false) → prefixes w rel v ≡ []
unfolding prefixes
none_is w rel v none = nothing_is w rel v w 0 (λ n a b. none n (omega (arith, zero_times (2 ^ w))))

pub at_most_all : (w v : ℕ) → v + 1 ≡ 2 ^ w → prefixes w r.Le v ≡ prefix w w 0 ∷ []
at_most_all w v h = all_is w r.Le v (le-leb 0 v (omega arith)) (le-leb (2 ^ w - 1) v (omega arith))

pub at_least_all : (w : ℕ) → prefixes w r.Ge 0 ≡ prefix w w 0 ∷ []
at_least_all w = all_is w r.Ge 0 (le-leb 0 0 (omega arith)) (le-leb 0 (2 ^ w - 1) (omega arith))

-- a bound behind the field's numbers
wide_by : (w v : ℕ) → v / 2 ^ w ≢ 0 → (v < 2 ^ w) ⊎ (2 ^ w ≤ v) → 2 ^ w ≤ v
wide_by w v h (inl l) = absurd (h (none_above w v l))
wide_by w v h (inr l) = l

wide_bound : (w v : ℕ) → v / 2 ^ w ≢ 0 → 2 ^ w ≤ v
wide_bound w v h = wide_by w v h (cases_lt v (2 ^ w))

pub full_less : (w v : ℕ) → v / 2 ^ w ≢ 0 → prefixes w r.Lt v ≡ prefix w w 0 ∷ []
full_less w v h =
    let a = wide_bound w v h in
    let b = pow_pos w in
    all_is w r.Lt v (lt-ltb 0 v (omega arith)) (lt-ltb (2 ^ w - 1) v (omega arith))

pub full_most : (w v : ℕ) → v / 2 ^ w ≢ 0 → prefixes w r.Le v ≡ prefix w w 0 ∷ []
full_most w v h =
    let a = wide_bound w v h in
    all_is w r.Le v (le-leb 0 v (omega arith)) (le-leb (2 ^ w - 1) v (omega arith))

pub full_greater : (w v : ℕ) → v / 2 ^ w ≢ 0 → prefixes w r.Gt v ≡ []
full_greater w v h = let a = wide_bound w v h in none_is w r.Gt v (λ n b. le-ltb v n (omega arith))

pub full_least : (w v : ℕ) → v / 2 ^ w ≢ 0 → prefixes w r.Ge v ≡ []
full_least w v h = let a = wide_bound w v h in none_is w r.Ge v (λ n b. lt-leb v n (omega arith))

-- no number stands in another relation
none_by : (w : ℕ) (rel : Rel) (v : ℕ) → rel ≢ r.Lt → rel ≢ r.Le → rel ≢ r.Gt → rel ≢ r.Ge → prefixes w rel v ≡ []
none_by w r.Eq v a b c d = none_is w r.Eq v (λ n h. refl)
none_by w r.Ne v a b c d = none_is w r.Ne v (λ n h. refl)
none_by w r.Lt v a b c d = absurd (a refl)
none_by w r.Le v a b c d = absurd (b refl)
none_by w r.Gt v a b c d = absurd (c refl)
none_by w r.Ge v a b c d = absurd (d refl)

full_by : (w : ℕ) (rel : Rel) (v : ℕ) → v / 2 ^ w ≢ 0 → rel ≢ r.Lt → rel ≢ r.Le → prefixes w rel v ≡ []
full_by w r.Eq v h a b = none_is w r.Eq v (λ n k. refl)
full_by w r.Ne v h a b = none_is w r.Ne v (λ n k. refl)
full_by w r.Lt v h a b = absurd (a refl)
full_by w r.Le v h a b = absurd (b refl)
full_by w r.Gt v h a b = full_greater w v h
full_by w r.Ge v h a b = full_least w v h

-- ---- as the code has it

pub no_order : (xs : List Bits) (w : ℕ) (rel : Rel) (v : ℕ) → rel ≢ r.Lt → rel ≢ r.Le → rel ≢ r.Gt → rel ≢ r.Ge → xs ≡ xs ++ prefixes w rel v
no_order xs w rel v a b c d = sym (ap (λ (ys : List Bits). xs ++ ys) (none_by w rel v a b c d) ∙ append-nil xs)

pub full_none : (xs : List Bits) (w : ℕ) (rel : Rel) (v : ℕ) → v / 2 ^ w ≢ 0 → rel ≢ r.Lt → rel ≢ r.Le → xs ≡ xs ++ prefixes w rel v
full_none xs w rel v h a b = sym (ap (λ (ys : List Bits). xs ++ ys) (full_by w rel v h a b) ∙ append-nil xs)

shifted : (w : ℕ) → w ≤ 48 → 1 * 2 ^ w % 2 ^ 64 ≡ 2 ^ w
shifted w h = one_shl w 64 (omega arith)

pub at_most_shifted : (w v : ℕ) → w ≤ 48 → v + 1 ≡ 1 * 2 ^ w % 2 ^ 64 → prefixes w r.Le v ≡ prefix w w 0 ∷ []
at_most_shifted w v h e = at_most_all w v (e ∙ shifted w h)

same_from_le : (i w : ℕ) → i ≤ w → w ≤ i → i ≡ w
same_from_le i w h k = omega arith

powers : (i w : ℕ) → i ≤ w → (i < w) ⊎ (w ≤ i) → 2 ^ i ≤ 2 ^ w
powers i w h (inl l) = omega (arith, pow_below i w l)
powers i w h (inr l) = omega (arith, ap (λ (k : ℕ). 2 ^ k) (same_from_le i w h l))

pub shifts_order : (i w : ℕ) → w ≤ 48 → i ≤ w → 1 * 2 ^ i % 2 ^ 64 ≤ 1 * 2 ^ w % 2 ^ 64
shifts_order i w h k = omega (arith, shifted i (omega arith), shifted w h, powers i w k (cases_lt i w))

-- ---- how many there are

pub count_less : (w : ℕ) (rel : Rel) (v : ℕ) → rel ≡ r.Lt → v < 2 ^ w → count_ones v ≡ length (prefixes w rel v)
count_less w rel v e h = sym (ap (λ (s : Rel). length (prefixes w s v)) e ∙ less_count w v h)

below_by : (w v : ℕ) → v < 2 ^ w → (v + 1 ≡ 2 ^ w → ⊥) → (v + 1 < 2 ^ w) ⊎ (2 ^ w ≤ v + 1) → v + 1 < 2 ^ w
below_by w v h f (inl l) = l
below_by w v h f (inr l) = absurd (f (omega arith))

below_next : (w v : ℕ) → v < 2 ^ w → (v + 1 ≡ 2 ^ w → ⊥) → v + 1 < 2 ^ w
below_next w v h f = below_by w v h f (cases_lt (v + 1) (2 ^ w))

pub count_most : (w : ℕ) (rel : Rel) (v : ℕ) → rel ≡ r.Le → w ≤ 48 → v < 2 ^ w → v + 1 ≢ 1 * 2 ^ w % 2 ^ 64 → count_ones (v + 1) ≡ length (prefixes w rel v)
count_most w rel v e wide h other = sym (ap (λ (s : Rel). length (prefixes w s v)) e ∙ sym (ap length (at_most_is w v)) ∙ less_count w (v + 1) (below_next w v h (λ k. other (k ∙ sym (shifted w wide)))))

pub count_most_all : (w : ℕ) (rel : Rel) (v : ℕ) → rel ≡ r.Le → w ≤ 48 → v + 1 ≡ 1 * 2 ^ w % 2 ^ 64 → 1 ≡ length (prefixes w rel v)
count_most_all w rel v e wide h = sym (ap (λ (s : Rel). length (prefixes w s v)) e ∙ ap length (at_most_shifted w v wide h))

pub count_greater : (w : ℕ) (rel : Rel) (v : ℕ) → rel ≡ r.Gt → v < 2 ^ w → w - count_ones v ≡ length (prefixes w rel v)
count_greater w rel v e h = omega (arith, ap (λ (s : Rel). length (prefixes w s v)) e, greater_count w v h)

pub count_least : (w : ℕ) (rel : Rel) (v : ℕ) → rel ≡ r.Ge → v < 2 ^ w → v ≢ 0 → w - count_ones (v - 1) ≡ length (prefixes w rel v)
count_least w rel v e h some = omega (arith, ap (λ (s : Rel). length (prefixes w s v)) e, ap length (at_least_back w v (omega arith)), greater_count w (v - 1) (omega arith))

pub count_least_all : (w : ℕ) (rel : Rel) (v : ℕ) → rel ≡ r.Ge → v ≡ 0 → 1 ≡ length (prefixes w rel v)
count_least_all w rel v e h = sym (ap (λ (s : Rel). length (prefixes w s v)) e ∙ ap (λ (k : ℕ). length (prefixes w r.Ge k)) h ∙ ap length (at_least_all w))

pub count_none : (w : ℕ) (rel : Rel) (v : ℕ) → rel ≢ r.Lt → rel ≢ r.Le → rel ≢ r.Gt → rel ≢ r.Ge → 0 ≡ length (prefixes w rel v)
count_none w rel v a b c d = sym (ap length (none_by w rel v a b c d))

pub count_full_less : (w : ℕ) (rel : Rel) (v : ℕ) → rel ≡ r.Lt → v / 2 ^ w ≢ 0 → 1 ≡ length (prefixes w rel v)
count_full_less w rel v e h = sym (ap (λ (s : Rel). length (prefixes w s v)) e ∙ ap length (full_less w v h))

pub count_full_most : (w : ℕ) (rel : Rel) (v : ℕ) → rel ≡ r.Le → v / 2 ^ w ≢ 0 → 1 ≡ length (prefixes w rel v)
count_full_most w rel v e h = sym (ap (λ (s : Rel). length (prefixes w s v)) e ∙ ap length (full_most w v h))

pub count_full_none : (w : ℕ) (rel : Rel) (v : ℕ) → v / 2 ^ w ≢ 0 → rel ≢ r.Lt → rel ≢ r.Le → 0 ≡ length (prefixes w rel v)
count_full_none w rel v h a b = sym (ap length (full_by w rel v h a b))

-- a bound within them
pub is_within : (w v : ℕ) → v / 2 ^ w ≡ 0 → v < 2 ^ w
is_within w v h = omega (arith, shr_split v w, ap (λ (k : ℕ). k * 2 ^ w) h, mod_below v (2 ^ w) (pow_pos w))
