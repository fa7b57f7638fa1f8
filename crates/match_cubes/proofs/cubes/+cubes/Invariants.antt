use Rattle.std.proofs.Common.{◌≡◌, map, drop}
use Rattle.match_cubes.specs.Cubes as spec
use Rattle.match_cubes.specs.Points.{setting}
use Rattle.match_cubes.specs.Steps as steps
use Rattle.match_cubes.proofs.cubes.+cubes.Given as goal

abbrev pub invariant-joined_cubes-loop-term : goal.invariant-joined_cubes-loop-term
invariant-joined_cubes-loop-term l = steps.join_from l.is_every l.all (map (λ e. spec.cubes_in (setting l.sets l.ports) e l.positive) (drop l.term-index l.terms)) ≡ steps.joined_in (setting l.sets l.ports) l.is_every l.positive l.terms
