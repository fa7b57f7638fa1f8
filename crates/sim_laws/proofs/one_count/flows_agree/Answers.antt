use Rattle.sim_laws.proofs.counts.SameFlows.{each_chassis_agrees, each_chassis_walks}
use Rattle.sim_laws.proofs.one_count.flows_agree.Goals as goal

pub returns-clause-agree : goal.returns-clause-agree
returns-clause-agree c = each_chassis_agrees c.flows_agree.ensures c.tables_filled.ensures

pub returns-clause-walks : goal.returns-clause-walks
returns-clause-walks c = each_chassis_walks c.flows_agree.ensures c.tables_filled.ensures
