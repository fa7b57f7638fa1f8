use Rattle.std.proofs.Common.{◌≡◌, take}
use Rattle.match_language.proofs.expr.+copies.Given as goal

abbrev pub invariant-copy_all-loop-term : goal.invariant-copy_all-loop-term
invariant-copy_all-loop-term l = l.all ≡ take l.term-index l.terms
