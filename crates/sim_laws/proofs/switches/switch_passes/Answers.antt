use Rattle.sim_laws.proofs.passes.Arriving.{arrives_virtual}
use Rattle.sim_laws.proofs.passes.Sending.{sends_on}
use Rattle.sim_laws.proofs.passes.Visiting.{visits_virtual}
use Rattle.sim_laws.proofs.passes.Whole.{tells_all}
use Rattle.sim_laws.proofs.switches.switch_passes.Goals as goal

pub returns-clause-sends : goal.returns-clause-sends
returns-clause-sends c = sends_on c.switches_lead_on.ensures.sends

pub returns-clause-visits : goal.returns-clause-visits
returns-clause-visits c = visits_virtual c.switches_lead_on.ensures.visits

pub returns-clause-arrives : goal.returns-clause-arrives
returns-clause-arrives c = arrives_virtual c.switches_lead_on.ensures.arrives

pub returns-clause-whole : goal.returns-clause-whole
returns-clause-whole c = tells_all
