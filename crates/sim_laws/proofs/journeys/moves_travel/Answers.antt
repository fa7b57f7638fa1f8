use Rattle.sim_laws.proofs.journey_laws.Moving.{travels, all_drain, enters_and_drains}
use Rattle.sim_laws.proofs.journeys.moves_travel.Goals as goal

pub returns-clause-travels : goal.returns-clause-travels
returns-clause-travels c = travels

pub returns-clause-drains : goal.returns-clause-drains
returns-clause-drains c = all_drain

pub returns-clause-enters_and_drains : goal.returns-clause-enters_and_drains
returns-clause-enters_and_drains c = enters_and_drains
