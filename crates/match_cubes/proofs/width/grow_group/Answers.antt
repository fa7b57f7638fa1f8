use Rattle.std.proofs.Common.{◌∙◌, arith}
use Rattle.match_cubes.proofs.WidthSteps.{grown_get, grown_end}
use Rattle.match_cubes.proofs.width.grow_group.Goals as goal

pub loop-port-preserved : goal.loop-port-preserved
loop-port-preserved g c = record {
  small = omega (arith, c.grow-width.ensures);
  same =
      grown_get (λ p. 16) c.args.is_equal c.loop-port.width c.grow-width.result ((g.S.SetSource.members c.args.sets.now).ports c.args.group.now) c.loop-port.index c.in-Some._port.now c.in-Some.ensures.value (c.grow-width.ensures)
      ∙ c.loop-port.invariant.same;
}

pub returns : goal.returns
returns g c = grown_end (λ p. 16) c.args.is_equal c.loop-port.width ((g.S.SetSource.members c.args.sets.now).ports c.args.group.now) c.loop-port.index c.loop-port.invariant.small c.in_default.ensures.value ∙ c.loop-port.invariant.same
