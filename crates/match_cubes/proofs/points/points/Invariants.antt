use Rattle.std.proofs.Common.{◌≡◌, take}
use Rattle.std.specs.List.{flat_map}
use Rattle.match_cubes.specs.Points as spec
use Rattle.match_cubes.proofs.points.points.Given as goal

abbrev pub invariant-loop-value : goal.invariant-loop-value
invariant-loop-value l = l.all ≡ flat_map (spec.points_of (spec.setting l.sets l.ports) l.field) (take l.value-index l.values)
