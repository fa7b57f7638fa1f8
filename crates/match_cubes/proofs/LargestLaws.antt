-- The prefixes of a range are those that lie in it and in no larger one that does.
use Rattle.std.specs.Prelude.{◌≡◌, ◌⊎◌, ◌≤◌, ◌<◌, ℕ, zero, suc, ◌+◌, ◌-◌, ◌*◌, ◌/◌, ◌%◌, ◌^◌, Bool, true, false, List, [], ◌∷◌, ◌++◌}
use Rattle.std.proofs.Common.{refl, sym, ap, ◌∙◌, subst, arith, inl, inr, ⊎_elim}
use Rattle.std.proofs.lemmas.Bool.{false≢true, cases_lt}
use Rattle.std.proofs.lemmas.Nat.{pow_pos, shr-shr}
use Rattle.ovn_base.specs.lists.Among.{Among, here, there}
use Rattle.ovn_base.proofs.AmongLaws.{among_left, among_right}
use Rattle.inet_packet.specs.declared.cube.Bits.{Bits}
use Rattle.match_language.specs.declared.expr.Rel.{Rel}
use Rattle.match_cubes.specs.Prefixes.{lies, prefix, largest, prefixes, IsLargest, AreLargest}
use Rattle.match_cubes.proofs.PrefixLaws.{none_above}
use Rattle.match_cubes.proofs.PrefixSteps.{whole_is, split_is, one_is}

-- ---- each of them is one

-- no larger prefix around p lies in the range
abbrev Alone : ℕ → Rel → ℕ → ℕ → ℕ → Type 0
Alone w rel v i p = (k : ℕ) → 0 < k → i + k ≤ w → lies rel v (i + k) (p / 2 ^ k) ≡ false

abbrev Found : ℕ → Rel → ℕ → Bits → Type 0
Found w rel v b = (i : ℕ) × (p : ℕ) × IsLargest w rel v i p × (b ≡ prefix w i p)

half_less : (p c k : ℕ) → c < 2 → (2 * p + c) / 2 ^ suc k ≡ p / 2 ^ k
half_less p c k h =
    let one : (2 * p + c) / 2 ≡ p = omega arith in
    let e : 1 + k ≡ suc k = omega arith in
    sym (ap (λ (m : ℕ). (2 * p + c) / 2 ^ m) e) ∙ sym (shr-shr (2 * p + c) 1 k) ∙ ap (λ (m : ℕ). m / 2 ^ k) one

alone_half : (w : ℕ) (rel : Rel) (v i p c : ℕ) → c < 2 → lies rel v (suc i) p ≡ false → Alone w rel v (suc i) p → Alone w rel v i (2 * p + c)
alone_half w rel v i p c h none alone zero k within = absurd (omega arith)
alone_half w rel v i p c h none alone (suc zero) k within =
    let e : i + 1 ≡ suc i = omega arith in
    ap (λ (m : ℕ). lies rel v m ((2 * p + c) / 2 ^ 1)) e ∙ ap (lies rel v (suc i)) (half_less p c 0 h ∙ omega arith) ∙ none
alone_half w rel v i p c h none alone (suc (suc j)) k within =
    let e : i + suc (suc j) ≡ suc i + suc j = omega arith in
    ap (λ (m : ℕ). lies rel v m ((2 * p + c) / 2 ^ suc (suc j))) e ∙ ap (lies rel v (suc i + suc j)) (half_less p c (suc j) h) ∙ alone (suc j) (omega arith) (omega arith)

only_one : (b c : Bits) → Among b (c ∷ []) → b ≡ c
only_one b _ here = refl
only_one b c (there m) = elim m [ ]

among_more : (b x : Bits) (xs ys : List Bits) → Among b xs ⊎ Among b ys → Among b (x ∷ xs) ⊎ Among b ys
among_more b x xs ys (inl m) = inl (there m)
among_more b x xs ys (inr m) = inr m

among_parts : (b : Bits) (xs ys : List Bits) → Among b (xs ++ ys) → Among b xs ⊎ Among b ys
among_parts b [] ys m = inr m
among_parts b (_ ∷ xs) ys here = inl here
among_parts b (x ∷ xs) ys (there m) = among_more b x xs ys (among_parts b xs ys m)

plus_zero : (n : ℕ) → n + 0 ≡ n
plus_zero n = omega arith

twice_pow : (m : ℕ) → 2 ^ suc m ≡ 2 ^ m + 2 ^ m
twice_pow m = grind arith

room : (w i p c : ℕ) → suc i ≤ w → p < 2 ^ (w - suc i) → c < 2 → 2 * p + c < 2 ^ (w - i)
room w i p c h below small =
    let e : w - i ≡ suc (w - suc i) = omega arith in
    subst (λ (m : ℕ). 2 * p + c < 2 ^ m) (sym e) (omega (arith, twice_pow (w - suc i)))

found_one : (w : ℕ) (rel : Rel) (v i p : ℕ) (b : Bits) → i ≤ w → p < 2 ^ (w - i) → Alone w rel v i p → lies rel v i p ≡ true → b ≡ prefix w i p → Found w rel v b
found_one w rel v i p b within below alone h e = (i, p, record { within = within; below = below; in_range = h; alone = alone }, e)

sound_last : (w : ℕ) (rel : Rel) (v p : ℕ) (b : Bits) → 0 ≤ w → p < 2 ^ (w - 0) → Alone w rel v 0 p → (t : Bool) → lies rel v 0 p ≡ t → Among b (largest w rel v 0 p) → Found w rel v b
sound_last w rel v p b within below alone true h m = found_one w rel v 0 p b within below alone h (only_one b (prefix w 0 p) (subst (Among b) (whole_is w rel v 0 p h) m))
sound_last w rel v p b within below alone false h m = elim (subst (Among b) (one_is w rel v p h) m) [ ]

sound_more : (w : ℕ) (rel : Rel) (v i p : ℕ) (b : Bits) → suc i ≤ w → p < 2 ^ (w - suc i) → Alone w rel v (suc i) p → (t : Bool) → lies rel v (suc i) p ≡ t → Among b (largest w rel v (suc i) p)
    → (lies rel v (suc i) p ≡ false → Among b (largest w rel v i (2 * p)) → Found w rel v b) → (lies rel v (suc i) p ≡ false → Among b (largest w rel v i (2 * p + 1)) → Found w rel v b) → Found w rel v b
sound_more w rel v i p b within below alone true h m low high = found_one w rel v (suc i) p b within below alone h (only_one b (prefix w (suc i) p) (subst (Among b) (whole_is w rel v (suc i) p h) m))
sound_more w rel v i p b within below alone false h m low high =
    ⊎_elim (low h) (high h) (among_parts b (largest w rel v i (2 * p)) (largest w rel v i (2 * p + 1)) (subst (Among b) (split_is w rel v i p h) m))

sound : (w : ℕ) (rel : Rel) (v i p : ℕ) (b : Bits) → i ≤ w → p < 2 ^ (w - i) → Alone w rel v i p → Among b (largest w rel v i p) → Found w rel v b
sound w rel v zero p b within below alone m = sound_last w rel v p b within below alone (lies rel v 0 p) refl m
sound w rel v (suc i) p b within below alone m =
    sound_more w rel v i p b within below alone (lies rel v (suc i) p) refl m
    (λ none n. sound w rel v i (2 * p) b (omega arith) (subst (λ (q : ℕ). q < 2 ^ (w - i)) (plus_zero (2 * p)) (room w i p 0 within below (omega arith))) (subst (Alone w rel v i) (plus_zero (2 * p)) (alone_half w rel v i p 0 (omega arith) none alone)) n)
    (λ none n. sound w rel v i (2 * p + 1) b (omega arith) (room w i p 1 within below (omega arith)) (alone_half w rel v i p 1 (omega arith) none alone) n)

-- ---- each that does is among them

-- the prefix that lies in the range is the one that is settled
complete_by : (w : ℕ) (rel : Rel) (v i p j q : ℕ) → IsLargest w rel v j q → i ≤ w → j ≤ i → q / 2 ^ (i - j) ≡ p → (t : Bool) → lies rel v i p ≡ t → (j < i) ⊎ (i ≤ j)
    → (lies rel v i p ≡ false → j < i → Among (prefix w j q) (largest w rel v i p)) → Among (prefix w j q) (largest w rel v i p)
complete_by w rel v i p j q h within less e true t (inl l) rest =
    let s : j + (i - j) ≡ i = omega arith in
    let none : lies rel v i p ≡ false = sym (ap (lies rel v i) e) ∙ sym (ap (λ (m : ℕ). lies rel v m (q / 2 ^ (i - j))) s) ∙ h.alone (i - j) (omega arith) (omega arith) in
    absurd (false≢true (sym none ∙ t))
complete_by w rel v i p j q h within less e true t (inr l) rest =
    let same : j ≡ i = omega arith in
    let z : i - j ≡ 0 = omega arith in
    let k : q ≡ p = omega (arith, sym (ap (λ (m : ℕ). q / 2 ^ m) z) ∙ e) in
    subst (Among (prefix w j q)) (sym (whole_is w rel v i p t)) (subst (λ (c : Bits). Among (prefix w j q) (c ∷ [])) (ap (λ (m : ℕ). prefix w m q) same ∙ ap (prefix w i) k) here)
complete_by w rel v i p j q h within less e false t (inl l) rest = rest t l
complete_by w rel v i p j q h within less e false t (inr l) rest =
    let same : j ≡ i = omega arith in
    let z : i - j ≡ 0 = omega arith in
    let k : q ≡ p = omega (arith, sym (ap (λ (m : ℕ). q / 2 ^ m) z) ∙ e) in
    absurd (false≢true (sym t ∙ sym (ap (λ (m : ℕ). lies rel v m q) same ∙ ap (lies rel v i) k) ∙ h.in_range))

half_by : (x p : ℕ) → x / 2 ≡ p → (x % 2 < 1) ⊎ (1 ≤ x % 2) → (x ≡ 2 * p) ⊎ (x ≡ 2 * p + 1)
half_by x p e (inl l) = inl (omega arith)
half_by x p e (inr l) = inr (omega arith)

half_cases : (x p : ℕ) → x / 2 ≡ p → (x ≡ 2 * p) ⊎ (x ≡ 2 * p + 1)
half_cases x p e = half_by x p e (cases_lt (x % 2) 1)

next_half : (i j q p : ℕ) → j < suc i → q / 2 ^ (suc i - j) ≡ p → q / 2 ^ (i - j) / 2 ≡ p
next_half i j q p l e =
    let s : i - j + 1 ≡ suc i - j = omega arith in
    shr-shr q (i - j) 1 ∙ ap (λ (m : ℕ). q / 2 ^ m) s ∙ e

in_half : (w : ℕ) (rel : Rel) (v i p j q : ℕ) → (q / 2 ^ (i - j) ≡ 2 * p) ⊎ (q / 2 ^ (i - j) ≡ 2 * p + 1) → (q / 2 ^ (i - j) ≡ 2 * p → Among (prefix w j q) (largest w rel v i (2 * p))) → (q / 2 ^ (i - j) ≡ 2 * p + 1 → Among (prefix w j q) (largest w rel v i (2 * p + 1)))
    → Among (prefix w j q) (largest w rel v i (2 * p) ++ largest w rel v i (2 * p + 1))
in_half w rel v i p j q (inl e) low high = among_left (prefix w j q) (largest w rel v i (2 * p)) (largest w rel v i (2 * p + 1)) (low e)
in_half w rel v i p j q (inr e) low high = among_right (prefix w j q) (largest w rel v i (2 * p)) (largest w rel v i (2 * p + 1)) (high e)

complete : (w : ℕ) (rel : Rel) (v i p j q : ℕ) → IsLargest w rel v j q → i ≤ w → j ≤ i → q / 2 ^ (i - j) ≡ p → Among (prefix w j q) (largest w rel v i p)
complete w rel v zero p j q h within less e = complete_by w rel v zero p j q h within less e (lies rel v 0 p) refl (cases_lt j 0) (λ none l. absurd (omega arith))
complete w rel v (suc i) p j q h within less e =
    complete_by w rel v (suc i) p j q h within less e (lies rel v (suc i) p) refl (cases_lt j (suc i))
    (λ none l. subst (Among (prefix w j q)) (sym (split_is w rel v i p none)) (in_half w rel v i p j q (half_cases (q / 2 ^ (i - j)) p (next_half i j q p l e))
    (λ k. complete w rel v i (2 * p) j q h (omega arith) (omega arith) k) (λ k. complete w rel v i (2 * p + 1) j q h (omega arith) (omega arith) k)))

-- They are exactly the largest.
pub are_largest : (w : ℕ) (rel : Rel) (v : ℕ) → AreLargest w rel v
unfolding prefixes
are_largest w rel v b = (
  λ m. sound w rel v w 0 b (omega arith) (pow_pos (w - w)) (λ k some within. absurd (omega arith)) m,
  λ found. subst (λ (c : Bits). Among c (largest w rel v w 0)) (sym found.3) (complete w rel v w 0 found.0 found.1 found.2 (omega arith) found.2.within (none_above (w - found.0) found.1 found.2.below)),
)
