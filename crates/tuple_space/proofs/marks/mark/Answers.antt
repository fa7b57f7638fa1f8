use Rattle.std.proofs.Common.{◌≡◌, ◌<◌, ◌*◌, ◌%◌, ◌^◌, length, get_or, arith, sym, subst, ◌∙◌}
use Rattle.std.specs.Prelude.{bit_or}
use Rattle.std.specs.Int.{w128}
use Rattle.std.proofs.lemmas.Grind.{get_or_default_zero}
use Rattle.std.proofs.lemmas.Nat.Bits.{bit_at_set_same}
use Rattle.tuple_space.specs.Sieving.{HasBit}
use Rattle.tuple_space.proofs.SieveLaws.{bit_left, marked_kept, marked_there}
use Rattle.tuple_space.proofs.marks.mark.Goals as goal

pub returns-then-place-len-clause-kept : goal.returns-then-place-len-clause-kept
returns-then-place-len-clause-kept c = λ p b h.
    let within : c.args.place < length c.args.words.now.items = omega (arith, c.len.ensures, c.if-place-len.true) in
    let value : c.index_mut.result.now ≡ get_or c.args.words.now.items c.args.place 0 = c.index_mut.ensures.value ∙ get_or_default_zero c.args.words.now.items c.args.place c.index_mut.result.now within in
    marked_kept c.args.words.now.items c.args.place (bit_or c.index_mut.result.now (1 * 2 ^ c.args.bit % 2 ^ 128)) p b within
    (λ g. bit_left c.index_mut.result.now (1 * 2 ^ c.args.bit % 2 ^ 128) b (subst (λ n. HasBit n b) (sym value) g)) h

pub returns-then-place-len-clause-marked : goal.returns-then-place-len-clause-marked
returns-then-place-len-clause-marked c =
    let within : c.args.place < length c.args.words.now.items = omega (arith, c.len.ensures, c.if-place-len.true) in
    marked_there c.args.words.now.items c.args.place (bit_or c.index_mut.result.now (1 * 2 ^ c.args.bit % 2 ^ 128)) c.args.bit within (bit_at_set_same w128 c.index_mut.result.now c.args.bit c.requires)
