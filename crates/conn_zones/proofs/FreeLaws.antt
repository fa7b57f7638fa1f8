-- The least number that isn't among some, found by a mark for each that is.
use Rattle.std.specs.Prelude.{◌≡◌, ◌≢◌, ◌↔◌, ◌<◌, ◌≤◌, ◌+◌, ℕ, zero, suc, Bool, true, false, List, [], ◌∷◌, ◌++◌, length, take, get_or, refl}
use mathlib.Core.Path.{sym, ap, subst, ◌∙◌}
use mathlib.Core.Logic.{inl, inr}
use native.Mathlib.Omega.{arith}
use Rattle.std.specs.List.{AllByRecursion, IsDistinct}
use Rattle.std.specs.Set.{is_member}
use Rattle.std.proofs.Math.Dec.{eqb as nat_eq}
use Rattle.std.proofs.Math.ListN.{set}
use Rattle.std.proofs.lemmas.Bool.{cases_order}
use Rattle.std.proofs.lemmas.Bool.Decides.{Decides-eqb, nat_tests}
use Rattle.std.proofs.lemmas.Cmp.{nat_eq_equiv}
use Rattle.std.proofs.lemmas.List.{take_more, get_or-set_same, get_or-set_other}
use Rattle.std.proofs.lemmas.Map.Made.{length-le_from_is_member}
use Rattle.ovn_base.proofs.AmongLaws.{among_left, among_right, among_append, among_cases, among_none, member_among, among_member}
use Rattle.ovn_base.specs.lists.Among.{Among, here}

-- ---- marks

-- the marks below the end are those of these numbers
abbrev pub AreMarks : ℕ → List ℕ → List Bool → Type 0
AreMarks end numbers marks = (m : ℕ) → m < end → (get_or marks m false ≡ true) ↔ Among m numbers

module _ (end : ℕ) (marks : List Bool) (numbers : List ℕ) (i : ℕ) (lt : i < length numbers) (marked : AreMarks end (take i numbers) marks) where
  next : take (i + 1) numbers ≡ take i numbers ++ get_or numbers i 0 ∷ []
  next = take_more numbers i 0 lt

  among_next : (m : ℕ) → Among m (take i numbers) → Among m (take (i + 1) numbers)
  among_next m a = subst (λ (l : List ℕ). Among m l) (sym next) (among_left m (take i numbers) (get_or numbers i 0 ∷ []) a)

  among_before : (m : ℕ) → m ≢ get_or numbers i 0 → Among m (take (i + 1) numbers) → Among m (take i numbers)
  among_before m other a = elim (among_append m (take i numbers) (get_or numbers i 0 ∷ []) (subst (λ (l : List ℕ). Among m l) next a)) [
    | inl before ↦ before
    | inr last ↦ elim (among_cases m (get_or numbers i 0) [] last) [ inl same ↦ absurd (other same) | inr none ↦ absurd (among_none m none) ]
  ]

  -- a number below the end is marked
  pub marked_more : get_or numbers i 0 < length marks → AreMarks end (take (i + 1) numbers) (set marks (get_or numbers i 0) true)
  marked_more within m below = elim (cases_order m (get_or numbers i 0)) [
    | inl same ↦ (
      λ _. subst (λ (l : List ℕ). Among m l) (sym next) (among_right m (take i numbers) (get_or numbers i 0 ∷ []) (subst (λ (n : ℕ). Among n (get_or numbers i 0 ∷ [])) (sym same) here)),
      λ _. ap (λ n. get_or (set marks (get_or numbers i 0) true) n false) same ∙ get_or-set_same marks (get_or numbers i 0) true false within,
    )
    | inr apart ↦
        let other : m ≢ get_or numbers i 0 = λ e. elim apart [ inl less ↦ omega (arith, e, less) | inr more ↦ omega (arith, e, more) ] in
        let kept = get_or-set_other marks (get_or numbers i 0) m true false other in
        (λ is. among_next m ((marked m below).0 (sym kept ∙ is)), λ a. kept ∙ (marked m below).1 (among_before m other a))
  ]

  -- and none at the end or past it
  pub marked_same : end ≤ get_or numbers i 0 → AreMarks end (take (i + 1) numbers) marks
  marked_same past m below = (λ is. among_next m ((marked m below).0 is), λ a. (marked m below).1 (among_before m (λ e. omega (arith, e, past, below)) a))

-- ---- one is free

-- the numbers from n down to 1
down : ℕ → List ℕ
down zero = []
down (suc n) = suc n ∷ down n

length-down : (n : ℕ) → length (down n) ≡ n
unfolding down
length-down zero = refl
length-down (suc n) = ap suc (length-down n)

above_down : (k n : ℕ) → n < k → AllByRecursion (λ y. nat_eq k y ≡ false) (down n)
unfolding down
above_down k zero lt = tt
above_down k (suc n) lt = (grind (arith, nat_tests), above_down k n (omega (arith, lt)))

distinct_down : (n : ℕ) → IsDistinct nat_eq (down n)
unfolding down IsDistinct
distinct_down zero = tt
distinct_down (suc n) = (above_down (suc n) n (omega arith), distinct_down n)

among_down : (m n : ℕ) → Among m (down n) → (1 ≤ m) × (m ≤ n)
unfolding down
among_down m zero a = absurd (among_none m a)
among_down m (suc n) a = elim (among_cases m (suc n) (down n) a) [
  | inl same ↦ (omega (arith, same), omega (arith, same))
  | inr later ↦ let r = among_down m n later in (r.0, omega (arith, r.1))
]

-- some numbers aren't all from 1 to one more than their count
pub crowded : (numbers : List ℕ) → ((m : ℕ) → 1 ≤ m → m < length numbers + 2 → Among m numbers) → ⊥
crowded numbers all =
    let n = length numbers + 1 in
    let each : (q : ℕ) → is_member nat_eq (down n) q ≡ true → is_member nat_eq numbers q ≡ true = λ q is.
    let r = among_down q n (member_among nat_eq (λ a b e. (Decides-eqb a b).0 e) q (down n) is) in
    among_member nat_eq (λ a. (Decides-eqb a a).1 refl) q numbers (all q r.0 (omega (arith, r.1))) in
    let most = length-le_from_is_member nat_eq_equiv (down n) numbers (distinct_down n) each in
    let long = length-down n in
    omega (arith, most, long)
