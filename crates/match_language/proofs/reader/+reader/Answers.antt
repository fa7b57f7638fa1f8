use Rattle.std.proofs.Common.{arith, rules}
use Rattle.std.proofs.lemmas.Grind.{common_steps}
use Rattle.match_language.specs.Reading.{more, term}
use Rattle.match_language.proofs.Turns.{one_more, deeper}
use Rattle.match_language.proofs.reader.+reader.Goals as goal

pub joined-loop-turn-preserved : goal.joined-loop-turn-preserved
unfolding more
joined-loop-turn-preserved t c =
    let e = one_more (λ n. more (term c.args.way c.args.levels) c.args.is_and n c.loop-turn.terms c.loop-turn.cursor) _ c.loop-turn.turn c.loop-turn-test.true c.loop-turn.invariant in
    first_of (search rules, grind (arith, common_steps))

pub term-returns-else-levels-eq0 : goal.term-returns-else-levels-eq0
unfolding term
term-returns-else-levels-eq0 t c =
    let e = deeper (λ n. term c.args.way n c.args.cursor.now) c.args.levels (omega arith) in
    first_of (search rules, grind (arith, common_steps))

pub joined-returns-then-is_operator : goal.joined-returns-then-is_operator
unfolding more
joined-returns-then-is_operator t c =
    let e = one_more (λ n. more (term c.args.way c.args.levels) c.args.is_and n c.loop-turn.terms c.loop-turn.cursor) _ c.loop-turn.turn c.loop-turn-test.true c.loop-turn.invariant in
    first_of (search rules, grind (arith, common_steps))
