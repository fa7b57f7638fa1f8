use Rattle.std.proofs.Common.{◌≡◌, take}
use Rattle.match_language.proofs.expr.copy_values.Given as goal

abbrev pub invariant-loop-value : goal.invariant-loop-value
invariant-loop-value l = l.all ≡ take l.value-index l.values
