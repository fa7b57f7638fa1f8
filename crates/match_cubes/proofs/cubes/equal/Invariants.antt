use Rattle.std.proofs.Common.{◌≡◌, take}
use Rattle.std.specs.Prelude.{flat_map, option_to_list}
use Rattle.match_cubes.proofs.cubes.equal.Given as goal

abbrev pub invariant-loop-point : goal.invariant-loop-point
invariant-loop-point l = l.all ≡ flat_map option_to_list (take l.point-index l.points)
