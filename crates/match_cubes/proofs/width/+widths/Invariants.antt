use Rattle.std.proofs.Common.{◌≡◌, ◌<◌, ◌^◌, map, drop}
use Rattle.match_cubes.specs.Width as spec
use Rattle.match_cubes.specs.Width.{saturated}
use Rattle.match_cubes.specs.Steps.{widened, width_joined}
use Rattle.match_cubes.proofs.width.+widths.Given as goal

abbrev pub invariant-joined_width-loop-term : goal.invariant-joined_width-loop-term
invariant-joined_width-loop-term g l = record {
  small : l.width < 2 ^ 128;
  same : saturated (widened l.is_every l.width (map (λ e. spec.width_in (g.S.SetSource.members l.sets) e l.positive) (drop l.term-index l.terms))) ≡ saturated (width_joined (g.S.SetSource.members l.sets) l.is_every l.positive l.terms);
}
