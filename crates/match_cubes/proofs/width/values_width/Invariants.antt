use Rattle.std.proofs.Common.{◌≡◌, ◌<◌, ◌^◌, drop}
use Rattle.std.specs.List.{flat_map}
use Rattle.match_cubes.specs.Width as spec
use Rattle.match_cubes.specs.Width.{saturated}
use Rattle.match_cubes.specs.Steps.{grown, first_count}
use Rattle.match_cubes.proofs.width.values_width.Given as goal

abbrev pub invariant-loop-value : goal.invariant-loop-value
invariant-loop-value g l = record {
  small : l.width < 2 ^ 128;
  same : saturated (grown l.is_equal l.width (flat_map (spec.weights_of (g.S.SetSource.members l.sets) l.field) (drop l.value-index l.values))) ≡ saturated (grown l.is_equal (first_count l.is_equal) (spec.weights (g.S.SetSource.members l.sets) l.field l.values));
}
