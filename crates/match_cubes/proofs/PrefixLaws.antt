-- A number fits one of the largest prefixes exactly where it stands in the relation.
use Rattle.std.specs.Prelude.{◌≡◌, ◌≤◌, ◌<◌, ℕ, zero, suc, ◌+◌, ◌-◌, ◌*◌, ◌/◌, ◌^◌, Bool, true, false, ◌&&◌, ◌||◌, cond, ◌==◌, [], ◌∷◌, ◌++◌}
use Rattle.std.specs.List.{list_any}
use Rattle.std.proofs.Common.{refl, sym, ap, ◌∙◌, arith}
use Rattle.std.proofs.Math.Bool.{or-false}
use Rattle.std.proofs.lemmas.Bool.{eqb-true, eq-eqb, ltb-true, lt-ltb, leb-true, le-leb, and_parts}
use Rattle.std.proofs.lemmas.Bool.Decides.{nat_tests}
use Rattle.std.proofs.lemmas.List.Folds.{list_any-append}
use Rattle.std.proofs.lemmas.Nat.{pow_pos, shr_split, mod_below, shr-shr}
use Rattle.std.proofs.lemmas.Nat.Bits.{and_high_mask}
use Rattle.match_language.specs.declared.expr.Rel.{Rel}
use Rattle.match_language.specs.declared.expr.Rel.TheVariants as r
use Rattle.inet_packet.specs.declared.cube.Bits.{Bits}
use Rattle.match_cubes.specs.Ternary.{fits}
use Rattle.match_cubes.specs.Prefixes.{relates, lies, prefix, largest, prefixes}
use Rattle.match_cubes.proofs.TernaryLaws.{same_tests, times_test}

-- a number fits the prefix that it has
pub fits_prefix : (w i p n : ℕ) → i ≤ w → n < 2 ^ w → fits (prefix w i p) n ≡ (n / 2 ^ i == p)
fits_prefix w i p n within small =
    ap (λ (m : ℕ). m == p * 2 ^ i) (and_high_mask w i within n small) ∙ times_test (n / 2 ^ i) p i

half_tests : (q p : ℕ) (r : Bool) → (((q == 2 * p) && r) || ((q == 2 * p + 1) && r)) ≡ ((q / 2 == p) && r)
half_tests q p true = grind (arith, nat_tests)
half_tests q p false = grind (arith, nat_tests)

half_shift : (n i : ℕ) → n / 2 ^ i / 2 ≡ n / 2 ^ suc i
half_shift n i = shr-shr n i 1 ∙ ap (λ (k : ℕ). n / 2 ^ k) (omega arith)

and_self : (b : Bool) → (b && b) ≡ b
and_self true = refl
and_self false = refl

grow : (q m : ℕ) → m ≤ suc q * m
grow q m = grind arith

no_multiple : (q m n : ℕ) → n < m → q * m ≤ n → q ≡ 0
no_multiple zero m n h k = refl
no_multiple (suc q) m n h k = absurd (omega (arith, grow q m))

-- a number below 2 ^ w has no bit from w on
pub none_above : (w n : ℕ) → n < 2 ^ w → n / 2 ^ w ≡ 0
none_above w n h = no_multiple (n / 2 ^ w) (2 ^ w) n h (omega (arith, shr_split n w))

-- ---- a prefix of which all numbers stand in the relation

-- what is between two that stand in the relation stands in it
between : (rel : Rel) (v a n b : ℕ) → a ≤ n → n ≤ b → (relates rel a v && relates rel b v) ≡ true → relates rel n v ≡ true
between r.Lt v a n b p q h = let parts = and_parts (relates r.Lt a v) (relates r.Lt b v) h in let k = ltb-true b v parts.1 in lt-ltb n v (omega arith)
between r.Le v a n b p q h = let parts = and_parts (relates r.Le a v) (relates r.Le b v) h in let k = leb-true b v parts.1 in le-leb n v (omega arith)
between r.Gt v a n b p q h = let parts = and_parts (relates r.Gt a v) (relates r.Gt b v) h in let k = ltb-true v a parts.0 in lt-ltb v n (omega arith)
between r.Ge v a n b p q h = let parts = and_parts (relates r.Ge a v) (relates r.Ge b v) h in let k = leb-true v a parts.0 in le-leb v n (omega arith)
between r.Eq v a n b p q h = absurd cc
between r.Ne v a n b p q h = absurd cc

-- the numbers of a prefix, by their least and their greatest
in_prefix : (i p n : ℕ) → n / 2 ^ i ≡ p → (p * 2 ^ i ≤ n) × (n ≤ p * 2 ^ i + (2 ^ i - 1))
in_prefix i p n h =
    let split = shr_split n i in
    let low = mod_below n (2 ^ i) (pow_pos i) in
    let e : p * 2 ^ i ≡ n / 2 ^ i * 2 ^ i = ap (λ (k : ℕ). k * 2 ^ i) (sym h) in
    (omega arith, omega arith)

whole_test : (rel : Rel) (v i p n : ℕ) → lies rel v i p ≡ true → (n / 2 ^ i == p) ≡ ((n / 2 ^ i == p) && relates rel n v)
whole_test rel v i p n h =
    same_tests (n / 2 ^ i == p) ((n / 2 ^ i == p) && relates rel n v)
    (λ k. let place = in_prefix i p n (eqb-true (n / 2 ^ i) p k) in
    ap (λ (b : Bool). b && relates rel n v) k ∙ between rel v (p * 2 ^ i) n (p * 2 ^ i + (2 ^ i - 1)) place.0 place.1 h)
    (λ k. (and_parts (n / 2 ^ i == p) (relates rel n v) k).0)

-- a prefix of one number, which does not stand in the relation
one_test : (rel : Rel) (v p n : ℕ) → lies rel v 0 p ≡ false → false ≡ ((n / 2 ^ 0 == p) && relates rel n v)
one_test rel v p n h =
    same_tests false ((n / 2 ^ 0 == p) && relates rel n v) (λ k. absurd cc)
    (λ k. let parts = and_parts (n / 2 ^ 0 == p) (relates rel n v) k in
    let e : n ≡ p = omega (arith, eqb-true (n / 2 ^ 0) p parts.0) in
    let low : p * 2 ^ 0 ≡ n = omega arith in
    let high : p * 2 ^ 0 + (2 ^ 0 - 1) ≡ n = omega arith in
    sym h ∙ ap (λ (m : ℕ). relates rel m v && relates rel (p * 2 ^ 0 + (2 ^ 0 - 1)) v) low ∙ ap (λ (m : ℕ). relates rel n v && relates rel m v) high ∙ and_self (relates rel n v) ∙ parts.1)

-- ---- the largest

last_by : (w : ℕ) (rel : Rel) (v p n : ℕ) → 0 ≤ w → n < 2 ^ w → (r : Bool) → lies rel v 0 p ≡ r → list_any (λ b. fits b n) (cond r (prefix w 0 p ∷ []) []) ≡ ((n / 2 ^ 0 == p) && relates rel n v)
last_by w rel v p n within small true h = or-false (fits (prefix w 0 p) n) ∙ fits_prefix w 0 p n within small ∙ whole_test rel v 0 p n h
last_by w rel v p n within small false h = one_test rel v p n h

halves : (i n p : ℕ) (t : Bool) → (((n / 2 ^ i == 2 * p) && t) || ((n / 2 ^ i == 2 * p + 1) && t)) ≡ ((n / 2 ^ suc i == p) && t)
halves i n p t = half_tests (n / 2 ^ i) p t ∙ ap (λ (q : ℕ). (q == p) && t) (half_shift n i)

more_by : (w : ℕ) (rel : Rel) (v i p n : ℕ) → suc i ≤ w → n < 2 ^ w → (r : Bool) → lies rel v (suc i) p ≡ r
    → list_any (λ b. fits b n) (largest w rel v i (2 * p)) ≡ ((n / 2 ^ i == 2 * p) && relates rel n v)
    → list_any (λ b. fits b n) (largest w rel v i (2 * p + 1)) ≡ ((n / 2 ^ i == 2 * p + 1) && relates rel n v)
    → list_any (λ b. fits b n) (cond r (prefix w (suc i) p ∷ []) (largest w rel v i (2 * p) ++ largest w rel v i (2 * p + 1))) ≡ ((n / 2 ^ suc i == p) && relates rel n v)
more_by w rel v i p n within small true h low high = or-false (fits (prefix w (suc i) p) n) ∙ fits_prefix w (suc i) p n within small ∙ whole_test rel v (suc i) p n h
more_by w rel v i p n within small false h low high =
    list_any-append (λ (b : Bits). fits b n) (largest w rel v i (2 * p)) (largest w rel v i (2 * p + 1))
    ∙ ap (λ (b : Bool). b || list_any (λ (c : Bits). fits c n) (largest w rel v i (2 * p + 1))) low
    ∙ ap (λ (b : Bool). ((n / 2 ^ i == 2 * p) && relates rel n v) || b) high
    ∙ halves i n p (relates rel n v)

-- A number fits one of the largest prefixes within p exactly where it has the prefix p and stands in the relation.
largest_any : (w : ℕ) (rel : Rel) (v i p n : ℕ) → i ≤ w → n < 2 ^ w → list_any (λ b. fits b n) (largest w rel v i p) ≡ ((n / 2 ^ i == p) && relates rel n v)
unfolding largest
largest_any w rel v zero p n within small = last_by w rel v p n within small (lies rel v 0 p) refl
largest_any w rel v (suc i) p n within small =
    more_by w rel v i p n within small (lies rel v (suc i) p) refl (largest_any w rel v i (2 * p) n (omega arith) small) (largest_any w rel v i (2 * p + 1) n (omega arith) small)

pub prefixes_any : (w : ℕ) (rel : Rel) (v n : ℕ) → n < 2 ^ w → list_any (λ b. fits b n) (prefixes w rel v) ≡ relates rel n v
unfolding prefixes
prefixes_any w rel v n small =
    largest_any w rel v w 0 n (omega arith) small ∙ ap (λ (b : Bool). b && relates rel n v) (eq-eqb (n / 2 ^ w) 0 (none_above w n small))
