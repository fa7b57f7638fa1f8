use Rattle.world_core.proofs.OneStep.{same_run, same_step}
use Rattle.world_core.proofs.one_run.one_run.Goals as goal

pub returns-clause-step : goal.returns-clause-step
returns-clause-step c = same_step

pub returns-clause-run : goal.returns-clause-run
returns-clause-run c = same_run
