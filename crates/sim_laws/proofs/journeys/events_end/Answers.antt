use Rattle.sim_laws.proofs.journey_laws.Finishing.{begins, finishes}
use Rattle.sim_laws.proofs.journey_laws.First.{first as nothing_first}
use Rattle.sim_laws.proofs.journeys.events_end.Goals as goal

pub returns-clause-first : goal.returns-clause-first
returns-clause-first c = nothing_first

pub returns-clause-begins : goal.returns-clause-begins
returns-clause-begins c = begins

pub returns-clause-finishes : goal.returns-clause-finishes
returns-clause-finishes c = finishes
