use Rattle.sim_laws.proofs.counts.Drains.{drains_count, through_count}
use Rattle.sim_laws.proofs.one_count.events_count.Goals as goal

pub returns-clause-drains : goal.returns-clause-drains
returns-clause-drains c = drains_count c.flows_agree.ensures.walks c.journeys_refine.ensures.arrives

pub returns-clause-through : goal.returns-clause-through
returns-clause-through c = through_count c.flows_agree.ensures.walks c.journeys_refine.ensures.enters c.journeys_refine.ensures.arrives
