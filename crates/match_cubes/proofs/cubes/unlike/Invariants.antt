use Rattle.std.proofs.Common.{◌≡◌, [], ◌∷◌, drop}
use Rattle.match_cubes.specs.Cubes as spec
use Rattle.match_cubes.specs.Ternary.{any_bits}
use Rattle.match_cubes.proofs.cubes.unlike.Given as goal

abbrev pub invariant-loop-point : goal.invariant-loop-point
invariant-loop-point l = spec.unlike l.width l.all (drop l.point-index l.points) ≡ spec.unlike l.width (any_bits ∷ []) l.points
