use Rattle.sim_laws.proofs.journey_laws.ArrivingFrames.{arrives_so}
use Rattle.sim_laws.proofs.journey_laws.Draining.{all_arrives, goes_through as goes_all}
use Rattle.sim_laws.proofs.journey_laws.Entering.{enters_so}
use Rattle.sim_laws.proofs.journey_laws.Losing.{loses_so}
use Rattle.sim_laws.proofs.journeys.journeys_refine.Goals as goal

pub returns-clause-enters : goal.returns-clause-enters
returns-clause-enters c = enters_so c.tables_filled.ensures c.routed_passes.ensures.visits c.switch_passes.ensures.whole

pub returns-clause-arrives : goal.returns-clause-arrives
returns-clause-arrives c = arrives_so c.tables_filled.ensures c.routed_passes.ensures.arrives c.switch_passes.ensures.whole

pub returns-clause-loses : goal.returns-clause-loses
returns-clause-loses c = loses_so

pub returns-clause-all_arrive : goal.returns-clause-all_arrive
returns-clause-all_arrive c = all_arrives (arrives_so c.tables_filled.ensures c.routed_passes.ensures.arrives c.switch_passes.ensures.whole)

pub returns-clause-goes_through : goal.returns-clause-goes_through
returns-clause-goes_through c =
    goes_all (enters_so c.tables_filled.ensures c.routed_passes.ensures.visits c.switch_passes.ensures.whole)
    (arrives_so c.tables_filled.ensures c.routed_passes.ensures.arrives c.switch_passes.ensures.whole)
