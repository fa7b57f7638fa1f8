use Rattle.sim_laws.proofs.pipelines.EgressStages.{egress}
use Rattle.sim_laws.proofs.pipelines.FirstTable.{stands_first}
use Rattle.sim_laws.proofs.pipelines.IngressStages.{ingress}
use Rattle.sim_laws.proofs.switches.switch_pipelines.Goals as goal

pub returns-clause-first : goal.returns-clause-first
returns-clause-first c = stands_first

pub returns-clause-in_as_told : goal.returns-clause-in_as_told
returns-clause-in_as_told c = ingress c.tables_do_so.ensures

pub returns-clause-out_as_told : goal.returns-clause-out_as_told
returns-clause-out_as_told c = egress c.tables_do_so.ensures
