use Rattle.std.proofs.Common.{◌≡◌, ◌-◌, ◌/◌, ◌%◌, ◌^◌, ◌<◌, arith, sym, ap, ◌∙◌}
use Rattle.std.specs.Int.{bit_at}
use Rattle.std.proofs.lemmas.Nat.{shr_split}
use Rattle.std.proofs.lemmas.Nat.Bits.{bit_at_cat_low, bit_at_cat_high}
use Rattle.tuple_space.proofs.marks.half.Goals as goal

pub returns-then-bit-lt64 : goal.returns-then-bit-lt64
returns-then-bit-lt64 c =
    let word = c.args.word in
    let same : c.args.bit % 64 ≡ c.args.bit = omega (arith, c.if-bit-lt64.true) in
    ap (λ k. bit_at (word % 2 ^ 64) k) same ∙ sym (bit_at_cat_low (word / 2 ^ 64) 64 (word % 2 ^ 64) c.args.bit c.if-bit-lt64.true) ∙ ap (λ n. bit_at n c.args.bit) (shr_split word 64)

pub returns-else-bit-lt64 : goal.returns-else-bit-lt64
returns-else-bit-lt64 c =
    let word = c.args.word in
    let same : c.args.bit % 64 ≡ c.args.bit - 64 = omega (arith, c.if-bit-lt64.false, c.requires) in
    let below : word % 2 ^ 64 < 2 ^ 64 = omega arith in
    ap (λ k. bit_at (word / 2 ^ 64) k) same ∙ sym (bit_at_cat_high (word / 2 ^ 64) 64 (word % 2 ^ 64) c.args.bit below c.if-bit-lt64.false) ∙ ap (λ n. bit_at n c.args.bit) (shr_split word 64)
