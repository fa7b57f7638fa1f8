use Rattle.std.proofs.Common.{arith, rules}
use Rattle.std.proofs.lemmas.Grind.{common_steps}
use Rattle.match_language.specs.Reading.{more_values}
use Rattle.match_language.proofs.Turns.{one_more}
use Rattle.match_language.proofs.value.several.Goals as goal

pub loop-turn-preserved : goal.loop-turn-preserved
unfolding more_values
loop-turn-preserved c =
    let e = one_more (λ n. more_values c.args.field c.args.rel n c.loop-turn.values c.loop-turn.cursor) _ c.loop-turn.turn c.loop-turn-test.true c.loop-turn.invariant in
    first_of (search rules, grind (arith, common_steps))
