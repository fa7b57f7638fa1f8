use Rattle.std.proofs.Common.{ℕ, ◌<◌, [], ◌∷◌, length, ap, ◌∙◌, arith}
use Rattle.match_cubes.specs.Width as spec
use Rattle.match_cubes.specs.Width.{saturated}
use Rattle.match_cubes.specs.Steps.{widened}
use Rattle.match_cubes.proofs.WidthSteps.{widened_at}
use Rattle.match_cubes.proofs.width.+widths.Goals as goal

pub joined_width-loop-term-preserved : goal.joined_width-loop-term-preserved
joined_width-loop-term-preserved g t c =
    let lt : c.loop-term.term-index < length c.args.terms.now = omega arith in
    record {
      small = omega (arith, c.widen-width.ensures);
      same =
          widened_at (λ e. spec.width_in (g.S.SetSource.members c.args.sets.now) e c.args.positive) c.args.is_every c.loop-term.width c.widen-width.result c.args.terms.now c.loop-term.term-index c.term-item.result lt c.term-item.is
          (c.widen-width.ensures ∙ ap (λ (k : ℕ). saturated (widened c.args.is_every c.loop-term.width (k ∷ []))) c.width_in.ensures)
          ∙ c.loop-term.invariant.same;
    }
