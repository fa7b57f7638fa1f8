use Rattle.sim_laws.proofs.turn_laws.TurnedChassis.{turns, deltas}
use Rattle.sim_laws.proofs.journeys.turns_hold.Goals as goal

pub returns-clause-holds : goal.returns-clause-holds
returns-clause-holds g c flows_of = turns flows_of c.exact_flow.ensures

pub returns-clause-deltas : goal.returns-clause-deltas
returns-clause-deltas g c flows_of = deltas flows_of
