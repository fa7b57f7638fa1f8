use Rattle.std.proofs.Common.{◌≡◌, ◌++◌, ◌/◌, ◌^◌}
use Rattle.match_language.specs.declared.expr.Rel.TheVariants as rel
use Rattle.match_cubes.specs.Prefixes as spec
use Rattle.match_cubes.proofs.ranges.push_less.Given as goal

abbrev pub invariant-loop-free : goal.invariant-loop-free
invariant-loop-free l = l.out ++ spec.largest l.width rel.Lt l.bound l.free (l.bound / 2 ^ l.free) ≡ l.fn.out ++ spec.prefixes l.width rel.Lt l.bound
