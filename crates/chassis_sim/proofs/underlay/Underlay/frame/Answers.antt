use Rattle.chassis_sim.proofs.UnderlayLaws.{found_sent}
use Rattle.chassis_sim.proofs.underlay.Underlay.frame.Goals as goal

pub returns-clause-sent : goal.returns-clause-sent
returns-clause-sent c = found_sent c.get.result _ c.self.inside.waiting.entries c.self.inside.next c.get.ensures.value c.self.invariant.each
