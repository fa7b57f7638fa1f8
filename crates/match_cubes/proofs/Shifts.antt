-- The bits that are pushed alone and turned, one by one.
use Rattle.std.specs.Prelude.{◌≡◌, ◌≢◌, ◌<◌, ℕ, suc, ◌+◌, ◌-◌, ◌*◌, ◌%◌, ◌^◌, cond, ◌==◌, List, [], ◌∷◌, ◌++◌}
use Rattle.std.specs.Int.{bit_at}
use Rattle.std.proofs.Common.{refl, sym, ap, ◌∙◌, arith, append_assoc, append-nil}
use Rattle.std.proofs.lemmas.Bool.{cond-true, cond-false, eq-eqb, ne_eqb}
use Rattle.std.proofs.lemmas.Nat.{one_shl, shl_whole}
use Rattle.inet_packet.specs.declared.cube.Bits.{Bits}
use Rattle.match_cubes.specs.Ternary.{turned, turned_bits}

pub turned_start : (xs : List Bits) (b : Bits) → xs ++ turned_bits 0 b ≡ xs
unfolding turned_bits
turned_start xs b = append-nil xs

suc_is : (w : ℕ) → w + 1 ≡ suc w
suc_is w = omega arith

turned_suc : (w : ℕ) (b : Bits) → turned_bits (suc w) b ≡ turned_bits w b ++ cond (bit_at b.mask w == 1) (turned b.value w ∷ []) []
unfolding turned_bits
turned_suc w b = refl

-- the bit as it is pushed
pushed : (w v : ℕ) → w < 48 → turned v w ≡ record { value = (1 - bit_at v w) * 2 ^ w % 2 ^ 64; mask = 1 * 2 ^ w % 2 ^ 64 }
pushed w v h =
    let a : (1 - bit_at v w) * 2 ^ w ≡ (1 - bit_at v w) * 2 ^ w % 2 ^ 64 = sym (shl_whole (1 - bit_at v w) 1 w 64 (omega arith) (omega arith)) in
    let b : 2 ^ w ≡ 1 * 2 ^ w % 2 ^ 64 = sym (one_shl w 64 (omega arith)) in
    λ i. record { value = a i; mask = b i }

pub turned_next : (xs : List Bits) (w : ℕ) (b : Bits) → w < 48 → bit_at b.mask w ≡ 1 → xs ++ turned_bits (w + 1) b ≡ (xs ++ turned_bits w b) ++ (record { value = (1 - bit_at b.value w) * 2 ^ w % 2 ^ 64; mask = 1 * 2 ^ w % 2 ^ 64 } ∷ [])
turned_next xs w b h one =
    ap (λ (n : ℕ). xs ++ turned_bits n b) (suc_is w)
    ∙ ap (λ (ys : List Bits). xs ++ ys) (turned_suc w b)
    ∙ ap (λ (ys : List Bits). xs ++ (turned_bits w b ++ ys)) (cond-true (bit_at b.mask w == 1) (turned b.value w ∷ []) [] (eq-eqb (bit_at b.mask w) 1 one))
    ∙ ap (λ (y : Bits). xs ++ (turned_bits w b ++ (y ∷ []))) (pushed w b.value h)
    ∙ sym (append_assoc xs (turned_bits w b) (record { value = (1 - bit_at b.value w) * 2 ^ w % 2 ^ 64; mask = 1 * 2 ^ w % 2 ^ 64 } ∷ []))

pub turned_same : (w : ℕ) (b : Bits) → bit_at b.mask w ≢ 1 → turned_bits (w + 1) b ≡ turned_bits w b
turned_same w b other =
    ap (λ (n : ℕ). turned_bits n b) (suc_is w)
    ∙ turned_suc w b
    ∙ ap (λ (ys : List Bits). turned_bits w b ++ ys) (cond-false (bit_at b.mask w == 1) (turned b.value w ∷ []) [] (ne_eqb (bit_at b.mask w) 1 other))
    ∙ append-nil (turned_bits w b)
