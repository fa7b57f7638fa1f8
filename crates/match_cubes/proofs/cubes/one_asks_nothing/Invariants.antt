use Rattle.std.proofs.Common.{◌≡◌, drop}
use Rattle.std.specs.List.{list_any}
use Rattle.match_cubes.specs.Steps as steps
use Rattle.match_cubes.proofs.cubes.one_asks_nothing.Given as goal

abbrev pub invariant-loop-point : goal.invariant-loop-point
invariant-loop-point l = list_any steps.asks_nothing (drop l.point-index l.points) ≡ list_any steps.asks_nothing l.points
