-- The prefixes of a range, bit by bit of its bound.
use Rattle.std.specs.Prelude.{◌≡◌, ◌≢◌, ◌⊎◌, ◌≤◌, ◌<◌, ℕ, zero, suc, ◌+◌, ◌-◌, ◌*◌, ◌/◌, ◌%◌, ◌^◌, true, false, List, [], ◌∷◌, ◌++◌, length, count_ones}
use Rattle.std.specs.Int.{bit_at}
use Rattle.std.specs.Int.Count.{ones-ones}
use Rattle.std.proofs.Common.{refl, sym, ap, ◌∙◌, subst, arith, inl, inr, append_assoc, append-nil, length-append}
use Rattle.std.proofs.lemmas.Bool.{cond-true, cond-false, and_from, and_left, and_right, lt-ltb, le-ltb}
use Rattle.std.proofs.lemmas.Nat.{pow_pos, shr_split, mod_below, shr-shr}
use Rattle.std.proofs.lemmas.Nat.Bits.{bit_at-lt}
use Rattle.inet_packet.specs.declared.cube.Bits.{Bits}
use Rattle.match_language.specs.declared.expr.Rel.{Rel}
use Rattle.match_language.specs.declared.expr.Rel.TheVariants as r
use Rattle.match_cubes.specs.Prefixes.{relates, lies, prefix, largest, prefixes}
use Rattle.match_cubes.proofs.TernaryLaws.{ones_more, mod_one}
use Rattle.match_cubes.proofs.PrefixLaws.{none_above}

-- ---- one step of the definition

-- a prefix that lies in the range
pub whole_is : (w : ℕ) (rel : Rel) (v i p : ℕ) → lies rel v i p ≡ true → largest w rel v i p ≡ prefix w i p ∷ []
unfolding largest
whole_is w rel v zero p h = cond-true (lies rel v 0 p) (prefix w 0 p ∷ []) [] h
whole_is w rel v (suc i) p h = cond-true (lies rel v (suc i) p) (prefix w (suc i) p ∷ []) (largest w rel v i (2 * p) ++ largest w rel v i (2 * p + 1)) h

-- one that does not
pub split_is : (w : ℕ) (rel : Rel) (v i p : ℕ) → lies rel v (suc i) p ≡ false → largest w rel v (suc i) p ≡ largest w rel v i (2 * p) ++ largest w rel v i (2 * p + 1)
unfolding largest
split_is w rel v i p h = cond-false (lies rel v (suc i) p) (prefix w (suc i) p ∷ []) (largest w rel v i (2 * p) ++ largest w rel v i (2 * p + 1)) h

pub one_is : (w : ℕ) (rel : Rel) (v p : ℕ) → lies rel v 0 p ≡ false → largest w rel v 0 p ≡ []
unfolding largest
one_is w rel v p h = cond-false (lies rel v 0 p) (prefix w 0 p ∷ []) [] h

low_half : (p i : ℕ) → 2 * p * 2 ^ i ≡ p * 2 ^ suc i
low_half p i = grind arith

high_half : (p i : ℕ) → (2 * p + 1) * 2 ^ i ≡ p * 2 ^ suc i + 2 ^ i
high_half p i = grind arith

pow_twice : (i : ℕ) → 2 ^ suc i ≡ 2 ^ i + 2 ^ i
pow_twice i = grind arith

-- none of its numbers stands in the relation
pub nothing_is : (w : ℕ) (rel : Rel) (v i p : ℕ) → ((n : ℕ) → p * 2 ^ i ≤ n → n < p * 2 ^ i + 2 ^ i → relates rel n v ≡ false) → largest w rel v i p ≡ []
nothing_is w rel v zero p none =
    one_is w rel v p (and_left (relates rel (p * 2 ^ 0) v) (relates rel (p * 2 ^ 0 + (2 ^ 0 - 1)) v) (none (p * 2 ^ 0) (omega arith) (omega arith)))
nothing_is w rel v (suc i) p none =
    split_is w rel v i p (and_left (relates rel (p * 2 ^ suc i) v) (relates rel (p * 2 ^ suc i + (2 ^ suc i - 1)) v) (none (p * 2 ^ suc i) (omega arith) (omega (arith, pow_pos (suc i)))))
    ∙ ap (λ (xs : List Bits). xs ++ largest w rel v i (2 * p + 1)) (nothing_is w rel v i (2 * p) (λ n a b. none n (omega (arith, low_half p i)) (omega (arith, low_half p i, pow_twice i))))
    ∙ nothing_is w rel v i (2 * p + 1) (λ n a b. none n (omega (arith, high_half p i)) (omega (arith, high_half p i, pow_twice i)))

-- ---- the bound's own prefix

-- the bound's prefix, by one that is one bit shorter
half_of : (v i : ℕ) → v / 2 ^ i ≡ 2 * (v / 2 ^ suc i) + bit_at v i
half_of v i =
    let e : v / 2 ^ i / 2 ≡ v / 2 ^ suc i = shr-shr v i 1 ∙ ap (λ (k : ℕ). v / 2 ^ k) (omega arith) in
    omega arith

own_low : (v i : ℕ) → v / 2 ^ i * 2 ^ i ≤ v
own_low v i = omega (arith, shr_split v i)

own_high : (v i : ℕ) → v < v / 2 ^ i * 2 ^ i + 2 ^ i
own_high v i = omega (arith, shr_split v i, mod_below v (2 ^ i) (pow_pos i))

less_own : (v i : ℕ) → lies r.Lt v i (v / 2 ^ i) ≡ false
less_own v i =
    and_right (relates r.Lt (v / 2 ^ i * 2 ^ i) v) (relates r.Lt (v / 2 ^ i * 2 ^ i + (2 ^ i - 1)) v) (le-ltb (v / 2 ^ i * 2 ^ i + (2 ^ i - 1)) v (omega (arith, own_high v i)))

greater_own : (v i : ℕ) → lies r.Gt v i (v / 2 ^ i) ≡ false
greater_own v i =
    and_left (relates r.Gt (v / 2 ^ i * 2 ^ i) v) (relates r.Gt (v / 2 ^ i * 2 ^ i + (2 ^ i - 1)) v) (le-ltb v (v / 2 ^ i * 2 ^ i) (own_low v i))

-- the number before, and the number behind
times_more : (q m : ℕ) → q * m + m ≡ suc q * m
times_more q m = grind arith

before_suc : (q : ℕ) → suc q - 1 ≡ q
before_suc q = omega arith

times_next : (q m : ℕ) → (q + 1) * m ≡ q * m + m
times_next q m = grind arith

times_less : (q m : ℕ) → 0 < q → (q - 1) * m + m ≡ q * m
times_less zero m h = absurd (omega arith)
times_less (suc q) m h = ap (λ (k : ℕ). k * m + m) (before_suc q) ∙ times_more q m

less_before : (w v i q : ℕ) → q ≡ v / 2 ^ i → 0 < q → largest w r.Lt v i (q - 1) ≡ prefix w i (q - 1) ∷ []
less_before w v i q e h =
    let low : q * 2 ^ i ≤ v = subst (λ (k : ℕ). k * 2 ^ i ≤ v) (sym e) (own_low v i) in
    let next = times_less q (2 ^ i) h in
    let one = pow_pos i in
    whole_is w r.Lt v i (q - 1) (and_from (relates r.Lt ((q - 1) * 2 ^ i) v) (relates r.Lt ((q - 1) * 2 ^ i + (2 ^ i - 1)) v) (lt-ltb ((q - 1) * 2 ^ i) v (omega arith)) (lt-ltb ((q - 1) * 2 ^ i + (2 ^ i - 1)) v (omega arith)))

less_behind : (w v i q : ℕ) → q ≡ v / 2 ^ i → largest w r.Lt v i (q + 1) ≡ []
less_behind w v i q e =
    let high : v < q * 2 ^ i + 2 ^ i = subst (λ (k : ℕ). v < k * 2 ^ i + 2 ^ i) (sym e) (own_high v i) in
    nothing_is w r.Lt v i (q + 1) (λ n a b. le-ltb n v (omega (arith, times_next q (2 ^ i))))

greater_before : (w v i q : ℕ) → q ≡ v / 2 ^ i → 0 < q → largest w r.Gt v i (q - 1) ≡ []
greater_before w v i q e h =
    let low : q * 2 ^ i ≤ v = subst (λ (k : ℕ). k * 2 ^ i ≤ v) (sym e) (own_low v i) in
    nothing_is w r.Gt v i (q - 1) (λ n a b. le-ltb v n (omega (arith, times_less q (2 ^ i) h)))

greater_behind : (w v i q : ℕ) → q ≡ v / 2 ^ i → largest w r.Gt v i (q + 1) ≡ prefix w i (q + 1) ∷ []
greater_behind w v i q e =
    let high : v < q * 2 ^ i + 2 ^ i = subst (λ (k : ℕ). v < k * 2 ^ i + 2 ^ i) (sym e) (own_high v i) in
    let next = times_next q (2 ^ i) in
    whole_is w r.Gt v i (q + 1) (and_from (relates r.Gt ((q + 1) * 2 ^ i) v) (relates r.Gt ((q + 1) * 2 ^ i + (2 ^ i - 1)) v) (lt-ltb v ((q + 1) * 2 ^ i) (omega arith)) (lt-ltb v ((q + 1) * 2 ^ i + (2 ^ i - 1)) (omega arith)))

-- ---- one bit of the bound

less_one : (w v i : ℕ) → bit_at v i ≡ 1 → largest w r.Lt v (suc i) (v / 2 ^ suc i) ≡ prefix w i (v / 2 ^ i - 1) ∷ largest w r.Lt v i (v / 2 ^ i)
less_one w v i one =
    let h = half_of v i in
    let a : 2 * (v / 2 ^ suc i) ≡ v / 2 ^ i - 1 = omega arith in
    let b : 2 * (v / 2 ^ suc i) + 1 ≡ v / 2 ^ i = omega arith in
    split_is w r.Lt v i (v / 2 ^ suc i) (less_own v (suc i))
    ∙ ap (λ (k : ℕ). largest w r.Lt v i k ++ largest w r.Lt v i (2 * (v / 2 ^ suc i) + 1)) a
    ∙ ap (λ (xs : List Bits). xs ++ largest w r.Lt v i (2 * (v / 2 ^ suc i) + 1)) (less_before w v i (v / 2 ^ i) refl (omega arith))
    ∙ ap (λ (k : ℕ). prefix w i (v / 2 ^ i - 1) ∷ largest w r.Lt v i k) b

less_zero : (w v i : ℕ) → bit_at v i ≡ 0 → largest w r.Lt v (suc i) (v / 2 ^ suc i) ≡ largest w r.Lt v i (v / 2 ^ i)
less_zero w v i none =
    let h = half_of v i in
    let a : 2 * (v / 2 ^ suc i) ≡ v / 2 ^ i = omega arith in
    split_is w r.Lt v i (v / 2 ^ suc i) (less_own v (suc i))
    ∙ ap (λ (k : ℕ). largest w r.Lt v i k ++ largest w r.Lt v i (k + 1)) a
    ∙ ap (λ (xs : List Bits). largest w r.Lt v i (v / 2 ^ i) ++ xs) (less_behind w v i (v / 2 ^ i) refl)
    ∙ append-nil (largest w r.Lt v i (v / 2 ^ i))

greater_zero : (w v i : ℕ) → bit_at v i ≡ 0 → largest w r.Gt v (suc i) (v / 2 ^ suc i) ≡ largest w r.Gt v i (v / 2 ^ i) ++ prefix w i (v / 2 ^ i + 1) ∷ []
greater_zero w v i none =
    let h = half_of v i in
    let a : 2 * (v / 2 ^ suc i) ≡ v / 2 ^ i = omega arith in
    split_is w r.Gt v i (v / 2 ^ suc i) (greater_own v (suc i))
    ∙ ap (λ (k : ℕ). largest w r.Gt v i k ++ largest w r.Gt v i (k + 1)) a
    ∙ ap (λ (xs : List Bits). largest w r.Gt v i (v / 2 ^ i) ++ xs) (greater_behind w v i (v / 2 ^ i) refl)

greater_one : (w v i : ℕ) → bit_at v i ≡ 1 → largest w r.Gt v (suc i) (v / 2 ^ suc i) ≡ largest w r.Gt v i (v / 2 ^ i)
greater_one w v i one =
    let h = half_of v i in
    let a : 2 * (v / 2 ^ suc i) ≡ v / 2 ^ i - 1 = omega arith in
    let b : 2 * (v / 2 ^ suc i) + 1 ≡ v / 2 ^ i = omega arith in
    split_is w r.Gt v i (v / 2 ^ suc i) (greater_own v (suc i))
    ∙ ap (λ (k : ℕ). largest w r.Gt v i k ++ largest w r.Gt v i (2 * (v / 2 ^ suc i) + 1)) a
    ∙ ap (λ (xs : List Bits). xs ++ largest w r.Gt v i (2 * (v / 2 ^ suc i) + 1)) (greater_before w v i (v / 2 ^ i) refl (omega arith))
    ∙ ap (λ (k : ℕ). largest w r.Gt v i k) b

pub less_end : (w v : ℕ) → largest w r.Lt v 0 (v / 2 ^ 0) ≡ []
less_end w v = one_is w r.Lt v (v / 2 ^ 0) (less_own v 0)

pub greater_end : (w v : ℕ) → largest w r.Gt v 0 (v / 2 ^ 0) ≡ []
greater_end w v = one_is w r.Gt v (v / 2 ^ 0) (greater_own v 0)

-- ---- all bits

pub bound_is : (w : ℕ) (rel : Rel) (v : ℕ) → v < 2 ^ w → largest w rel v w (v / 2 ^ w) ≡ prefixes w rel v
unfolding prefixes
bound_is w rel v h = ap (λ (k : ℕ). largest w rel v w k) (none_above w v h)

bit_by : (x : ℕ) → x < 2 → (x ≡ 1) ⊎ (x ≡ 0)
bit_by zero h = inr refl
bit_by (suc zero) h = inl refl
bit_by (suc (suc x)) h = absurd (omega arith)

bit_cases : (v i : ℕ) → (bit_at v i ≡ 1) ⊎ (bit_at v i ≡ 0)
bit_cases v i = bit_by (bit_at v i) (bit_at-lt v i)

less_length_by : (w v i : ℕ) → length (largest w r.Lt v i (v / 2 ^ i)) ≡ count_ones (v % 2 ^ i) → (bit_at v i ≡ 1) ⊎ (bit_at v i ≡ 0) → length (largest w r.Lt v (suc i) (v / 2 ^ suc i)) ≡ count_ones (v % 2 ^ suc i)
less_length_by w v i h (inl one) = omega (arith, ap length (less_one w v i one), ones_more v i)
less_length_by w v i h (inr none) = omega (arith, ap length (less_zero w v i none), ones_more v i)

less_length : (w v i : ℕ) → length (largest w r.Lt v i (v / 2 ^ i)) ≡ count_ones (v % 2 ^ i)
less_length w v zero = ap length (less_end w v) ∙ sym (ap count_ones (mod_one v) ∙ ones-ones 0)
less_length w v (suc i) = less_length_by w v i (less_length w v i) (bit_cases v i)

greater_length_by : (w v i : ℕ) → length (largest w r.Gt v i (v / 2 ^ i)) + count_ones (v % 2 ^ i) ≡ i → (bit_at v i ≡ 1) ⊎ (bit_at v i ≡ 0) → length (largest w r.Gt v (suc i) (v / 2 ^ suc i)) + count_ones (v % 2 ^ suc i) ≡ suc i
greater_length_by w v i h (inl one) = omega (arith, ap length (greater_one w v i one), ones_more v i)
greater_length_by w v i h (inr none) =
    omega (arith, ap length (greater_zero w v i none), length-append (largest w r.Gt v i (v / 2 ^ i)) (prefix w i (v / 2 ^ i + 1) ∷ []), ones_more v i)

greater_length : (w v i : ℕ) → length (largest w r.Gt v i (v / 2 ^ i)) + count_ones (v % 2 ^ i) ≡ i
greater_length w v zero = omega (arith, ap length (greater_end w v), ap count_ones (mod_one v), ones-ones 0)
greater_length w v (suc i) = greater_length_by w v i (greater_length w v i) (bit_cases v i)

mod_small : (w v : ℕ) → v < 2 ^ w → v % 2 ^ w ≡ v
mod_small w v h = omega (arith, shr_split v w, ap (λ (k : ℕ). k * 2 ^ w) (none_above w v h))

-- how many prefixes there are
pub less_count : (w v : ℕ) → v < 2 ^ w → length (prefixes w r.Lt v) ≡ count_ones v
less_count w v h = sym (ap length (bound_is w r.Lt v h)) ∙ less_length w v w ∙ ap count_ones (mod_small w v h)

pub greater_count : (w v : ℕ) → v < 2 ^ w → length (prefixes w r.Gt v) + count_ones v ≡ w
greater_count w v h =
    omega (arith, ap length (bound_is w r.Gt v h), greater_length w v w, ap count_ones (mod_small w v h))

-- ---- what loops push

suc_is : (i : ℕ) → i + 1 ≡ suc i
suc_is i = omega arith

bit_other : (x : ℕ) → x < 2 → x ≢ 1 → x ≡ 0
bit_other zero h f = refl
bit_other (suc zero) h f = absurd (f refl)
bit_other (suc (suc x)) h f = absurd (omega arith)

bit_set : (x : ℕ) → x < 2 → x ≢ 0 → x ≡ 1
bit_set zero h f = absurd (f refl)
bit_set (suc zero) h f = refl
bit_set (suc (suc x)) h f = absurd (omega arith)

pub less_start : (xs : List Bits) (w v : ℕ) → v < 2 ^ w → xs ++ largest w r.Lt v w (v / 2 ^ w) ≡ xs ++ prefixes w r.Lt v
less_start xs w v h = ap (λ (ys : List Bits). xs ++ ys) (bound_is w r.Lt v h)

pub less_next : (xs : List Bits) (w v i : ℕ) → bit_at v i ≡ 1 → (xs ++ prefix w i (v / 2 ^ i - 1) ∷ []) ++ largest w r.Lt v i (v / 2 ^ i) ≡ xs ++ largest w r.Lt v (i + 1) (v / 2 ^ (i + 1))
less_next xs w v i one =
    append_assoc xs (prefix w i (v / 2 ^ i - 1) ∷ []) (largest w r.Lt v i (v / 2 ^ i))
    ∙ ap (λ (ys : List Bits). xs ++ ys) (sym (less_one w v i one))
    ∙ ap (λ (k : ℕ). xs ++ largest w r.Lt v k (v / 2 ^ k)) (sym (suc_is i))

pub less_same : (w v i : ℕ) → bit_at v i ≢ 1 → largest w r.Lt v i (v / 2 ^ i) ≡ largest w r.Lt v (i + 1) (v / 2 ^ (i + 1))
less_same w v i other =
    sym (less_zero w v i (bit_other (bit_at v i) (bit_at-lt v i) other)) ∙ ap (λ (k : ℕ). largest w r.Lt v k (v / 2 ^ k)) (sym (suc_is i))

pub less_all : (xs : List Bits) (w v : ℕ) → xs ++ largest w r.Lt v 0 (v / 2 ^ 0) ≡ xs
less_all xs w v = ap (λ (ys : List Bits). xs ++ ys) (less_end w v) ∙ append-nil xs

pub greater_start : (xs : List Bits) (w v : ℕ) → xs ++ largest w r.Gt v 0 (v / 2 ^ 0) ≡ xs
greater_start xs w v = ap (λ (ys : List Bits). xs ++ ys) (greater_end w v) ∙ append-nil xs

pub greater_next : (xs : List Bits) (w v i : ℕ) → bit_at v i ≡ 0 → xs ++ largest w r.Gt v (i + 1) (v / 2 ^ (i + 1)) ≡ (xs ++ largest w r.Gt v i (v / 2 ^ i)) ++ prefix w i (v / 2 ^ i + 1) ∷ []
greater_next xs w v i none =
    ap (λ (k : ℕ). xs ++ largest w r.Gt v k (v / 2 ^ k)) (suc_is i)
    ∙ ap (λ (ys : List Bits). xs ++ ys) (greater_zero w v i none)
    ∙ sym (append_assoc xs (largest w r.Gt v i (v / 2 ^ i)) (prefix w i (v / 2 ^ i + 1) ∷ []))

pub greater_same : (w v i : ℕ) → bit_at v i ≢ 0 → largest w r.Gt v (i + 1) (v / 2 ^ (i + 1)) ≡ largest w r.Gt v i (v / 2 ^ i)
greater_same w v i other =
    ap (λ (k : ℕ). largest w r.Gt v k (v / 2 ^ k)) (suc_is i) ∙ greater_one w v i (bit_set (bit_at v i) (bit_at-lt v i) other)

pub greater_all : (xs : List Bits) (w v : ℕ) → v < 2 ^ w → xs ++ largest w r.Gt v w (v / 2 ^ w) ≡ xs ++ prefixes w r.Gt v
greater_all xs w v h = ap (λ (ys : List Bits). xs ++ ys) (bound_is w r.Gt v h)
