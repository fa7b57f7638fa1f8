use Rattle.std.proofs.Common.{◌≡◌, map, drop}
use Rattle.match_cubes.specs.Steps as steps
use Rattle.match_cubes.proofs.cubes.predicate_cubes.Given as goal

abbrev pub invariant-loop-field : goal.invariant-loop-field
invariant-loop-field l = steps.join_from l.is_every l.all (map (steps.test_in l.positive) (drop l.field-index l.field-items)) ≡ steps.predicate_in l.fn.predicate l.positive
