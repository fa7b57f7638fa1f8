use Rattle.std.proofs.Common.{sym, subst}
use Rattle.std.specs.List.{AllByRecursion}
use Rattle.chassis_sim.specs.Frames.{IsWaiting}
use Rattle.chassis_sim.proofs.UnderlayLaws.{all_left}
use Rattle.chassis_sim.proofs.underlay.Underlay.take.Goals as goal

pub invariant_of-self : goal.invariant_of-self
invariant_of-self c = record {
  ordered = c.remove.ensures.ordered;
  each = subst (AllByRecursion (IsWaiting c.self.inside.next)) (sym c.remove.ensures.entries) (all_left (IsWaiting c.self.inside.next) _ c.self.inside.waiting.entries c.self.invariant.each);
}
