use Rattle.std.proofs.Common.{◌≡◌, ◌<◌, Some, length, slice_get, arith, sym, ap, ◌∙◌}
use Rattle.std.proofs.lemmas.Option.{slice_get-get_or}
use Rattle.tuple_space.specs.declared.mask.Asked.{Asked}
use Rattle.tuple_space.proofs.SieveLaws.{bit_both}
use Rattle.tuple_space.proofs.sieve.Sieve.passed.Goals as goal

pub loop-i-preserved : goal.loop-i-preserved
loop-i-preserved c = λ bit l h.
    let within : c.loop-i.i < length c.args.self.now.asks.items = omega (arith, c.len-i-end.ensures, c.loop-i-test.true) in
    let at : slice_get c.args.self.now.asks.items c.loop-i.i ≡ Some c.index.result.now = slice_get-get_or c.args.self.now.asks.items c.loop-i.i c.index.result.now within ∙ ap (λ (a : Asked). Some a) (sym c.index.ensures) in
    bit_both c.loop-i.word c.word-word.result bit (c.loop-i.invariant bit l h) (c.word-word.ensures bit l (h.at_each c.loop-i.i c.index.result.now at))
