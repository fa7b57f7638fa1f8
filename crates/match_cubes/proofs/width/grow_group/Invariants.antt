use Rattle.std.proofs.Common.{◌≡◌, ◌<◌, ◌-◌, ◌^◌, map, drop, length}
use Rattle.match_cubes.specs.Width.{saturated}
use Rattle.match_cubes.specs.Steps.{grown}
use Rattle.match_cubes.proofs.width.grow_group.Given as goal

abbrev pub invariant-loop-port : goal.invariant-loop-port
invariant-loop-port g l = record {
  small : l.width < 2 ^ 128;
  same : saturated (grown l.is_equal l.width (map (λ p. 16) (drop l.index ((g.S.SetSource.members l.sets).ports l.group)))) ≡ saturated (grown l.is_equal l.fn.so_far (map (λ p. 16) ((g.S.SetSource.members l.sets).ports l.group)));
}

abbrev pub decreases-loop-port : goal.decreases-loop-port
decreases-loop-port g l = length ((g.S.SetSource.members l.sets).ports l.group) - l.index
