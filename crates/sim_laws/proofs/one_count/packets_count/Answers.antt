use Rattle.sim_laws.proofs.counts.OneWalks.{entries_count, arrivals_count}
use Rattle.sim_laws.proofs.one_count.packets_count.Goals as goal

pub returns-clause-enters : goal.returns-clause-enters
returns-clause-enters c = entries_count c.flows_agree.ensures.walks

pub returns-clause-arrives : goal.returns-clause-arrives
returns-clause-arrives c = arrivals_count c.flows_agree.ensures.walks
