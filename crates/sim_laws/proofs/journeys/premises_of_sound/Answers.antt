use Rattle.sim_laws.proofs.journey_laws.Premises.{sound_on}
use Rattle.sim_laws.proofs.journey_laws.Ready.{is_ready}
use Rattle.sim_laws.proofs.journeys.premises_of_sound.Goals as goal

pub returns-clause-sound : goal.returns-clause-sound
returns-clause-sound c = sound_on

pub returns-clause-ready : goal.returns-clause-ready
returns-clause-ready c = is_ready c.tables_filled.ensures
