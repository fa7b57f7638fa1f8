use Rattle.std.proofs.Common.{ℕ, [], ◌∷◌, ap, ◌∙◌, arith}
use Rattle.match_cubes.specs.Width as spec
use Rattle.match_cubes.specs.Width.{saturated}
use Rattle.match_cubes.specs.Steps.{grown}
use Rattle.match_cubes.proofs.WidthSteps.{grown_get, grown_end}
use Rattle.match_cubes.proofs.width.grow_set.Goals as goal

pub loop-entry-preserved : goal.loop-entry-preserved
loop-entry-preserved g c = record {
  small = omega (arith, c.grow-width.ensures);
  same =
      grown_get (spec.entry_weight c.args.field) c.args.is_equal c.loop-entry.width c.grow-width.result ((g.S.SetSource.members c.args.sets.now).entries c.args.set.now) c.loop-entry.index c.in-Some.entry c.in-Some.ensures.value (c.grow-width.ensures ∙ ap (λ (k : ℕ). saturated (grown c.args.is_equal c.loop-entry.width (k ∷ []))) c.entry_weight.ensures)
      ∙ c.loop-entry.invariant.same;
}

pub returns : goal.returns
returns g c = grown_end (spec.entry_weight c.args.field) c.args.is_equal c.loop-entry.width ((g.S.SetSource.members c.args.sets.now).entries c.args.set.now) c.loop-entry.index c.loop-entry.invariant.small c.in_default.ensures.value ∙ c.loop-entry.invariant.same
