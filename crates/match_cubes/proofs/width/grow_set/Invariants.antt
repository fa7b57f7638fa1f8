use Rattle.std.proofs.Common.{◌≡◌, ◌<◌, ◌-◌, ◌^◌, map, drop, length}
use Rattle.match_cubes.specs.Width as spec
use Rattle.match_cubes.specs.Width.{saturated}
use Rattle.match_cubes.specs.Steps.{grown}
use Rattle.match_cubes.proofs.width.grow_set.Given as goal

abbrev pub invariant-loop-entry : goal.invariant-loop-entry
invariant-loop-entry g l = record {
  small : l.width < 2 ^ 128;
  same : saturated (grown l.is_equal l.width (map (spec.entry_weight l.field) (drop l.index ((g.S.SetSource.members l.sets).entries l.set)))) ≡ saturated (grown l.is_equal l.fn.so_far (map (spec.entry_weight l.field) ((g.S.SetSource.members l.sets).entries l.set)));
}

abbrev pub decreases-loop-entry : goal.decreases-loop-entry
decreases-loop-entry g l = length ((g.S.SetSource.members l.sets).entries l.set) - l.index
