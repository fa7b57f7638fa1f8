use Rattle.sim_laws.proofs.passes.Arriving.{arrives_on}
use Rattle.sim_laws.proofs.passes.Sending.{sends_to}
use Rattle.sim_laws.proofs.passes.Visiting.{into_switch_so, visits_so}
use Rattle.sim_laws.proofs.switches.switches_lead_on.Goals as goal

pub returns-clause-sends : goal.returns-clause-sends
returns-clause-sends c = sends_to c.switch_pipelines.ensures.out_as_told

pub returns-clause-enters : goal.returns-clause-enters
returns-clause-enters c = into_switch_so c.switch_pipelines.ensures.first c.switch_pipelines.ensures.in_as_told (sends_to c.switch_pipelines.ensures.out_as_told)

pub returns-clause-visits : goal.returns-clause-visits
returns-clause-visits c = visits_so c.switch_pipelines.ensures.first c.switch_pipelines.ensures.in_as_told (sends_to c.switch_pipelines.ensures.out_as_told)

pub returns-clause-arrives : goal.returns-clause-arrives
returns-clause-arrives c = arrives_on c.switch_pipelines.ensures.out_as_told
