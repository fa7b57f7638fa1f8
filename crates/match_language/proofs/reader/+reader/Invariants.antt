use Rattle.std.proofs.Common.{◌≡◌, ◌+◌, ◌*◌, ◌-◌}
use Rattle.match_language.specs.Reading as spec
use Rattle.match_language.proofs.reader.+reader.Given as goal

abbrev pub decreases-expression : goal.decreases-expression
decreases-expression l = 5 * l.levels + 2

abbrev pub decreases-group : goal.decreases-group
decreases-group l = 5 * l.levels + 3

abbrev pub decreases-joined : goal.decreases-joined
decreases-joined l = 5 * l.levels + 1

abbrev pub decreases-negation : goal.decreases-negation
decreases-negation l = 5 * l.levels + 1

abbrev pub decreases-deep : goal.decreases-deep
decreases-deep l = 5 * l.levels + 4

abbrev pub decreases-term : goal.decreases-term
decreases-term l = 5 * l.levels

-- the terms so far, and those to come
abbrev pub invariant-joined-loop-turn : goal.invariant-joined-loop-turn
invariant-joined-loop-turn l = spec.joined_terms (spec.term l.way l.levels) l.is_and l.fn.first l.fn.cursor ≡ spec.more (spec.term l.way l.levels) l.is_and (l.turn-end - l.turn) l.terms l.cursor
