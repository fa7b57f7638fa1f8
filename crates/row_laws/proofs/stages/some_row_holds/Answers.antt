use Rattle.row_laws.proofs.switch.EachStage.{each_base}
use Rattle.row_laws.proofs.stages.some_row_holds.Goals as goal

pub returns : goal.returns
returns c = each_base
