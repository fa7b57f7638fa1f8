use Rattle.row_laws.proofs.switch.EachStage.{each_law}
use Rattle.row_laws.proofs.stages.taken_rows.Goals as goal

pub returns : goal.returns
returns c = each_law
