use Rattle.sim_laws.proofs.journey_laws.Ticking.{ticks}
use Rattle.sim_laws.proofs.journeys.clock_ticks.Goals as goal

pub returns : goal.returns
returns c = ticks
