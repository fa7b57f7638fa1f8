-- What joined, turned and constant values under masks hold.
use Rattle.std.specs.Prelude.{◌≡◌, ◌≤◌, ◌<◌, ℕ, zero, suc, ◌+◌, ◌-◌, ◌*◌, ◌^◌, ◌%◌, ◌/◌, min, max, Bool, true, false, not, ◌&&◌, ◌||◌, cond, ◌==◌, [], ◌∷◌, length, bit_and, bit_or, count_ones}
use Rattle.std.specs.Int.{bit_at}
use Rattle.std.specs.List.{list_any}
use Rattle.std.proofs.Common.{refl, sym, ap, ◌∙◌, subst, arith, inl, inr, ⊎_elim, ◌⊎◌, length-append}
use Rattle.std.proofs.lemmas.Bool.{eqb-true, eq-eqb, eqb-false, and_parts, or_parts, or_from, not-true, false≢true, cases_lt, cases_eq}
use Rattle.std.proofs.lemmas.Bool.Decides.{nat_tests}
use Rattle.std.specs.Int.Count.{ones-ones}
use Rattle.std.proofs.Math.Bool.{or-false}
use Rattle.std.proofs.lemmas.List.Folds.{list_any-append}
use Rattle.std.proofs.lemmas.Nat.{or_comm, pow_pos, and_le_r, and_assoc, shl-shr, mod-pow-add, mod_below, ones_cat}
use Rattle.std.proofs.lemmas.Nat.Bits.{bit_at-lt, bit_at_and, bit_at_or, same_from_bits, bit_at_above, and_pow}
use Rattle.inet_packet.specs.declared.cube.Bits.{Bits}
use Rattle.match_cubes.specs.Ternary.{fits, under, any_bits, agree, both_bits, turned, turned_bits, meet_bits}

-- ---- tests

-- two tests that imply one another are one
pub same_tests : (r s : Bool) → (r ≡ true → s ≡ true) → (s ≡ true → r ≡ true) → r ≡ s
same_tests true true f g = refl
same_tests false false f g = refl
same_tests true false f g = sym (f refl)
same_tests false true f g = g refl

-- ---- one bit

-- one bit of the number, of two masks and of two values
bit_left : (n va ma vb mb : ℕ) → n < 2 → va < 2 → ma < 2 → vb < 2 → mb < 2 → min va mb ≡ min vb ma → min n (max ma mb) ≡ max va vb → min n ma ≡ va
bit_left n va ma vb mb p q r s t h k = omega arith

bit_both : (n va ma vb mb : ℕ) → min n ma ≡ va → min n mb ≡ vb → min n (max ma mb) ≡ max va vb
bit_both n va ma vb mb h k = omega arith

bit_agree : (n va ma vb mb : ℕ) → min n ma ≡ va → min n mb ≡ vb → min va mb ≡ min vb ma
bit_agree n va ma vb mb h k = omega arith

-- an equation of & as one of each bit
and_bits : (a b c : ℕ) → bit_and a b ≡ c → (i : ℕ) → min (bit_at a i) (bit_at b i) ≡ bit_at c i
and_bits a b c h i = sym (bit_at_and a b i) ∙ ap (λ (n : ℕ). bit_at n i) h

agree_bits : (va mb vb ma : ℕ) → bit_and va mb ≡ bit_and vb ma → (i : ℕ) → min (bit_at va i) (bit_at mb i) ≡ min (bit_at vb i) (bit_at ma i)
agree_bits va mb vb ma h i = sym (bit_at_and va mb i) ∙ ap (λ (n : ℕ). bit_at n i) h ∙ bit_at_and vb ma i

-- what fits the joined fits the left
both_left : (n va ma vb mb : ℕ) → bit_and va mb ≡ bit_and vb ma → bit_and n (bit_or ma mb) ≡ bit_or va vb → bit_and n ma ≡ va
both_left n va ma vb mb agrees h =
    same_from_bits (bit_and n ma) va (λ i.
    let both : min (bit_at n i) (max (bit_at ma i) (bit_at mb i)) ≡ max (bit_at va i) (bit_at vb i) =
    ap (λ (m : ℕ). min (bit_at n i) m) (sym (bit_at_or ma mb i)) ∙ and_bits n (bit_or ma mb) (bit_or va vb) h i ∙ bit_at_or va vb i in
    bit_at_and n ma i ∙ bit_left (bit_at n i) (bit_at va i) (bit_at ma i) (bit_at vb i) (bit_at mb i) (bit_at-lt n i) (bit_at-lt va i) (bit_at-lt ma i) (bit_at-lt vb i) (bit_at-lt mb i) (agree_bits va mb vb ma agrees i) both)

both_right : (n va ma vb mb : ℕ) → bit_and va mb ≡ bit_and vb ma → bit_and n (bit_or ma mb) ≡ bit_or va vb → bit_and n mb ≡ vb
both_right n va ma vb mb agrees h =
    both_left n vb mb va ma (sym agrees) (ap (λ (m : ℕ). bit_and n m) (or_comm mb ma) ∙ h ∙ or_comm va vb)

-- what fits both fits the joined
both_join : (n va ma vb mb : ℕ) → bit_and n ma ≡ va → bit_and n mb ≡ vb → bit_and n (bit_or ma mb) ≡ bit_or va vb
both_join n va ma vb mb h k =
    same_from_bits (bit_and n (bit_or ma mb)) (bit_or va vb) (λ i.
    bit_at_and n (bit_or ma mb) i ∙ ap (λ (m : ℕ). min (bit_at n i) m) (bit_at_or ma mb i)
    ∙ bit_both (bit_at n i) (bit_at va i) (bit_at ma i) (bit_at vb i) (bit_at mb i) (and_bits n ma va h i) (and_bits n mb vb k i)
    ∙ sym (bit_at_or va vb i))

-- what one number fits agrees
both_agree : (n va ma vb mb : ℕ) → bit_and n ma ≡ va → bit_and n mb ≡ vb → bit_and va mb ≡ bit_and vb ma
both_agree n va ma vb mb h k =
    same_from_bits (bit_and va mb) (bit_and vb ma) (λ i.
    bit_at_and va mb i
    ∙ bit_agree (bit_at n i) (bit_at va i) (bit_at ma i) (bit_at vb i) (bit_at mb i) (and_bits n ma va h i) (and_bits n mb vb k i)
    ∙ sym (bit_at_and vb ma i))

-- where the two agree, what fits the joined fits both
pub fits_joined : (a b : Bits) (n : ℕ) → agree a b ≡ true → fits (both_bits a b) n ≡ (fits a n && fits b n)
fits_joined a b n h =
    let agrees = eqb-true (bit_and a.value b.mask) (bit_and b.value a.mask) h in
    same_tests (fits (both_bits a b) n) (fits a n && fits b n)
    (λ p. let e = eqb-true (bit_and n (bit_or a.mask b.mask)) (bit_or a.value b.value) p in
    let l : fits a n ≡ true = eq-eqb (bit_and n a.mask) a.value (both_left n a.value a.mask b.value b.mask agrees e) in
    let r : fits b n ≡ true = eq-eqb (bit_and n b.mask) b.value (both_right n a.value a.mask b.value b.mask agrees e) in
    ap (λ (x : Bool). x && fits b n) l ∙ r)
    (λ p. let parts = and_parts (fits a n) (fits b n) p in
    eq-eqb (bit_and n (bit_or a.mask b.mask)) (bit_or a.value b.value) (both_join n a.value a.mask b.value b.mask (eqb-true (bit_and n a.mask) a.value parts.0) (eqb-true (bit_and n b.mask) b.value parts.1)))

-- where they do not agree, no number fits both
pub fits_apart : (a b : Bits) (n : ℕ) → agree a b ≡ false → (fits a n && fits b n) ≡ false
fits_apart a b n h =
    same_tests (fits a n && fits b n) false
    (λ p. let parts = and_parts (fits a n) (fits b n) p in
    absurd (eqb-false (bit_and a.value b.mask) (bit_and b.value a.mask) h (both_agree n a.value a.mask b.value b.mask (eqb-true (bit_and n a.mask) a.value parts.0) (eqb-true (bit_and n b.mask) b.value parts.1))))
    (λ p. absurd cc)

meet_by : (a b : Bits) (n : ℕ) (r : Bool) → agree a b ≡ r → list_any (λ c. fits c n) (cond r (both_bits a b ∷ []) []) ≡ (fits a n && fits b n)
meet_by a b n true h = or-false (fits (both_bits a b) n) ∙ fits_joined a b n h
meet_by a b n false h = sym (fits_apart a b n h)

-- a number fits the meet exactly where it fits both
pub meet_any : (n : ℕ) (a b : Bits) → list_any (λ c. fits c n) (meet_bits a b) ≡ (fits a n && fits b n)
meet_any n a b = meet_by a b n (agree a b) refl

few_by : (a b : Bits) (r : Bool) → length (cond r (both_bits a b ∷ []) []) ≤ 1
few_by a b true = omega arith
few_by a b false = omega arith

pub meet_few : (a b : Bits) → length (meet_bits a b) ≤ 1
meet_few a b = few_by a b (agree a b)

-- every number fits where no bit counts
pub any_fits : (n : ℕ) → fits any_bits n ≡ true
any_fits n = eq-eqb (bit_and n 0) 0 (omega (arith, and_le_r n 0))

-- ---- turned bits

pub times_test : (a b i : ℕ) → (a * 2 ^ i == b * 2 ^ i) ≡ (a == b)
times_test a b i =
    same_tests (a * 2 ^ i == b * 2 ^ i) (a == b)
    (λ p. eq-eqb a b (sym (shl-shr a i) ∙ ap (λ (n : ℕ). n / 2 ^ i) (eqb-true (a * 2 ^ i) (b * 2 ^ i) p) ∙ shl-shr b i))
    (λ p. eq-eqb (a * 2 ^ i) (b * 2 ^ i) (ap (λ (n : ℕ). n * 2 ^ i) (eqb-true a b p)))

bits_test : (x y : ℕ) → x < 2 → y < 2 → (x == 1 - y) ≡ not (x == y)
bits_test x y p q = grind (arith, nat_tests)

-- a number fits a turned bit exactly where its bit is other
pub fits_turned : (v i n : ℕ) → fits (turned v i) n ≡ not (bit_at n i == bit_at v i)
fits_turned v i n =
    ap (λ (m : ℕ). m == (1 - bit_at v i) * 2 ^ i) (and_pow n i)
    ∙ times_test (bit_at n i) (1 - bit_at v i) i
    ∙ bits_test (bit_at n i) (bit_at v i) (bit_at-lt n i) (bit_at-lt v i)

-- no bit of the value is outside the mask, and none of the mask is above the lowest w
pub record IsWithin (w : ℕ) (b : Bits) : Type 0 where
  pub inside : bit_and b.value b.mask ≡ b.value
  pub below : b.mask < 2 ^ w

and_self : (m : ℕ) → bit_and m m ≡ m
and_self m = same_from_bits (bit_and m m) m (λ i. bit_at_and m m i ∙ omega arith)

pub under_within : (w n m : ℕ) → m < 2 ^ w → IsWithin w (under n m)
under_within w n m h = record { inside = and_assoc m n m ∙ ap (λ (k : ℕ). bit_and n k) (and_self m); below = h }

last_any : (b : Bits) (w n : ℕ) (r : Bool) → list_any (λ c. fits c n) (cond r (turned b.value w ∷ []) []) ≡ (r && not (bit_at n w == bit_at b.value w))
last_any b w n true = or-false (fits (turned b.value w) n) ∙ fits_turned b.value w n
last_any b w n false = refl

-- one bit more
turned_more : (w : ℕ) (b : Bits) (n : ℕ) → list_any (λ c. fits c n) (turned_bits (suc w) b) ≡ (list_any (λ c. fits c n) (turned_bits w b) || ((bit_at b.mask w == 1) && not (bit_at n w == bit_at b.value w)))
unfolding turned_bits
turned_more w b n =
    list_any-append (λ (c : Bits). fits c n) (turned_bits w b) (cond (bit_at b.mask w == 1) (turned b.value w ∷ []) [])
    ∙ ap (λ (x : Bool). list_any (λ (c : Bits). fits c n) (turned_bits w b) || x) (last_any b w n (bit_at b.mask w == 1))

same_bit : (m x y : ℕ) → ((m == 1) && not (x == y)) ≡ false → m ≡ 1 → x ≡ y
same_bit m x y h e = grind (arith, nat_tests)

no_bit : (m x y : ℕ) → (m ≡ 1 → x ≡ y) → ((m == 1) && not (x == y)) ≡ false
no_bit m x y f = same_tests ((m == 1) && not (x == y)) false (λ p. let parts = and_parts (m == 1) (not (x == y)) p in absurd (eqb-false x y (not-true (x == y) parts.1) (f (eqb-true m 1 parts.0)))) (λ p. absurd cc)

last_by : (i w : ℕ) → i < suc w → (i < w) ⊎ (w ≤ i) → (i ≡ w) ⊎ (i < w)
last_by i w h (inl l) = inr l
last_by i w h (inr l) = inl (omega arith)

last_or : (i w : ℕ) → i < suc w → (i ≡ w) ⊎ (i < w)
last_or i w h = last_by i w h (cases_lt i w)

-- where none fits, the bits that count are the same
none_same : (w : ℕ) (b : Bits) (n : ℕ) → list_any (λ c. fits c n) (turned_bits w b) ≡ false → (i : ℕ) → i < w → bit_at b.mask i ≡ 1 → bit_at n i ≡ bit_at b.value i
none_same zero b n h i less one = absurd (omega arith)
none_same (suc w) b n h i less one =
    let parts = or_parts (list_any (λ (c : Bits). fits c n) (turned_bits w b)) ((bit_at b.mask w == 1) && not (bit_at n w == bit_at b.value w)) (sym (turned_more w b n) ∙ h) in
    ⊎_elim
    (λ (e : i ≡ w). subst (λ (k : ℕ). bit_at n k ≡ bit_at b.value k) (sym e) (same_bit (bit_at b.mask w) (bit_at n w) (bit_at b.value w) parts.1 (subst (λ (k : ℕ). bit_at b.mask k ≡ 1) e one)))
    (λ (l : i < w). none_same w b n parts.0 i l one)
    (last_or i w less)

-- where they are the same, none fits
same_none : (w : ℕ) (b : Bits) (n : ℕ) → ((i : ℕ) → i < w → bit_at b.mask i ≡ 1 → bit_at n i ≡ bit_at b.value i) → list_any (λ c. fits c n) (turned_bits w b) ≡ false
unfolding turned_bits
same_none zero b n f = refl
same_none (suc w) b n f =
    turned_more w b n
    ∙ or_from (list_any (λ (c : Bits). fits c n) (turned_bits w b)) ((bit_at b.mask w == 1) && not (bit_at n w == bit_at b.value w))
    (same_none w b n (λ i less. f i (omega arith)))
    (no_bit (bit_at b.mask w) (bit_at n w) (bit_at b.value w) (f w (omega arith)))

zero_bit : (m : ℕ) → m < 2 → (m ≡ 1 → ⊥) → m ≡ 0
zero_bit zero r f = refl
zero_bit (suc zero) r f = absurd (f refl)
zero_bit (suc (suc m)) r f = absurd (omega arith)

fit_cases : (n v m : ℕ) → n < 2 → v < 2 → m < 2 → min v m ≡ v → (m ≡ 1 → n ≡ v) → (m ≡ 1) ⊎ (m ≡ 1 → ⊥) → min n m ≡ v
fit_cases n v m p q r inside f (inl one) = let e = f one in omega arith
fit_cases n v m p q r inside f (inr other) = let none : m ≡ 0 = zero_bit m r other in omega arith

fit_bit : (n v m : ℕ) → n < 2 → v < 2 → m < 2 → min v m ≡ v → (m ≡ 1 → n ≡ v) → min n m ≡ v
fit_bit n v m p q r inside f = fit_cases n v m p q r inside f (cases_eq m 1)

bit_fit : (n v m : ℕ) → n < 2 → min n m ≡ v → m ≡ 1 → n ≡ v
bit_fit n v m p h e = omega arith

-- A number fits exactly where its bits that count are the same.
same_fits : (w : ℕ) (b : Bits) (n : ℕ) → IsWithin w b → ((i : ℕ) → i < w → bit_at b.mask i ≡ 1 → bit_at n i ≡ bit_at b.value i) → fits b n ≡ true
same_fits w b n within f =
    eq-eqb (bit_and n b.mask) b.value (same_from_bits (bit_and n b.mask) b.value (λ i.
    bit_at_and n b.mask i
    ∙ fit_bit (bit_at n i) (bit_at b.value i) (bit_at b.mask i) (bit_at-lt n i) (bit_at-lt b.value i) (bit_at-lt b.mask i) (and_bits b.value b.mask b.value within.inside i)
    (λ one. ⊎_elim (λ (l : i < w). f i l one) (λ (l : w ≤ i). absurd (omega (arith, bit_at_above b.mask w i within.below l))) (cases_lt i w))))

fits_same : (b : Bits) (n : ℕ) → fits b n ≡ true → (i : ℕ) → bit_at b.mask i ≡ 1 → bit_at n i ≡ bit_at b.value i
fits_same b n h i one =
    bit_fit (bit_at n i) (bit_at b.value i) (bit_at b.mask i) (bit_at-lt n i) (and_bits n b.mask b.value (eqb-true (bit_and n b.mask) b.value h) i) one

turned_by : (w : ℕ) (b : Bits) (n : ℕ) → IsWithin w b → (r : Bool) → fits b n ≡ r → (t : Bool) → list_any (λ c. fits c n) (turned_bits w b) ≡ t → list_any (λ c. fits c n) (turned_bits w b) ≡ not (fits b n)
turned_by w b n within true h t k = same_none w b n (λ i less one. fits_same b n h i one) ∙ sym (ap not h)
turned_by w b n within false h true k = k ∙ sym (ap not h)
turned_by w b n within false h false k = absurd (false≢true (sym h ∙ same_fits w b n within (none_same w b n k)))

-- A number fits a turned bit exactly where it does not fit.
pub turned_any : (w : ℕ) (b : Bits) (n : ℕ) → IsWithin w b → list_any (λ c. fits c n) (turned_bits w b) ≡ not (fits b n)
turned_any w b n within = turned_by w b n within (fits b n) refl (list_any (λ (c : Bits). fits c n) (turned_bits w b)) refl

-- ---- how many there are

pub ones_bit : (x : ℕ) → x < 2 → count_ones x ≡ x
ones_bit zero h = ones-ones 0
ones_bit (suc zero) h = ones-ones 1
ones_bit (suc (suc x)) h = absurd (omega arith)

-- the bits set among one more of the lowest
pub ones_more : (m w : ℕ) → count_ones (m % 2 ^ suc w) ≡ bit_at m w + count_ones (m % 2 ^ w)
ones_more m w =
    let e : suc w ≡ 1 + w = omega arith in
    ap (λ (k : ℕ). count_ones (m % 2 ^ k)) e
    ∙ ap count_ones (mod-pow-add m 1 w)
    ∙ ones_cat w (bit_at m w) (m % 2 ^ w) (mod_below m (2 ^ w) (pow_pos w))
    ∙ ap (λ (k : ℕ). k + count_ones (m % 2 ^ w)) (ones_bit (bit_at m w) (bit_at-lt m w))

last_length_by : (b : Bits) (w x : ℕ) → x < 2 → length (cond (x == 1) (turned b.value w ∷ []) []) ≡ x
last_length_by b w zero h = refl
last_length_by b w (suc zero) h = refl
last_length_by b w (suc (suc x)) h = absurd (omega arith)

pub mod_one : (m : ℕ) → m % 1 ≡ 0
mod_one m = omega (arith, mod_below m 1 (omega arith))

last_length : (b : Bits) (w : ℕ) → length (cond (bit_at b.mask w == 1) (turned b.value w ∷ []) []) ≡ bit_at b.mask w
last_length b w = last_length_by b w (bit_at b.mask w) (bit_at-lt b.mask w)

pub turned_length : (w : ℕ) (b : Bits) → length (turned_bits w b) ≡ count_ones (b.mask % 2 ^ w)
unfolding turned_bits
turned_length zero b = sym (ap count_ones (mod_one b.mask) ∙ ones-ones 0)
turned_length (suc w) b =
    length-append (turned_bits w b) (cond (bit_at b.mask w == 1) (turned b.value w ∷ []) [])
    ∙ omega (arith, last_length b w, turned_length w b, ones_more b.mask w)
