use Rattle.row_laws.proofs.switch.Passing.{passes}
use Rattle.row_laws.proofs.stages.state_stages_let_pass.Goals as goal

pub returns : goal.returns
returns c = passes
