use Rattle.physical_flows.proofs.AroundSets.{around_set}
use Rattle.physical_flows.proofs.ProperTables.{around_proper}
use Rattle.physical_flows.proofs.TableDeltas.{around_or_not}
use Rattle.physical_flows.proofs.Tables.{around_tables}
use Rattle.physical_flows.proofs.laws.flows_around.Goals as goal

pub returns-clause-set : goal.returns-clause-set
returns-clause-set c = around_set

pub returns-clause-decided : goal.returns-clause-decided
returns-clause-decided c = around_or_not c.exact_flow.ensures

pub returns-clause-tables : goal.returns-clause-tables
returns-clause-tables c = around_tables

pub returns-clause-proper : goal.returns-clause-proper
returns-clause-proper c = around_proper
