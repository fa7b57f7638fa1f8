use Rattle.std.proofs.Common.{◌≡◌, drop}
use Rattle.match_cubes.specs.Cubes as spec
use Rattle.match_cubes.proofs.cubes.ask_all.Given as goal

abbrev pub invariant-loop-field : goal.invariant-loop-field
invariant-loop-field l = spec.ask_all l.cube (drop l.field-index l.tests) ≡ spec.ask_all l.fn.cube l.tests
