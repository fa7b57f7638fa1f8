use Rattle.row_laws.proofs.switch.EachStage.{each_agrees}
use Rattle.row_laws.proofs.stages.rows_agree.Goals as goal

pub returns : goal.returns
returns c = each_agrees
