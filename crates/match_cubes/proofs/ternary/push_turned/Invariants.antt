use Rattle.std.proofs.Common.{◌≡◌, ◌++◌}
use Rattle.match_cubes.specs.Ternary as spec
use Rattle.match_cubes.proofs.ternary.push_turned.Given as goal

abbrev pub invariant-loop-place : goal.invariant-loop-place
invariant-loop-place l = l.out ≡ l.fn.out ++ spec.turned_bits l.place l.bits
