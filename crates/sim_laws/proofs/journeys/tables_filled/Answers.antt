use Rattle.sim_laws.proofs.journey_laws.Filling.{fills_so}
use Rattle.sim_laws.proofs.journeys.tables_filled.Goals as goal

pub returns : goal.returns
returns c = fills_so c.rows_can_be_lowered.ensures
