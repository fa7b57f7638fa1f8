use Rattle.row_laws.proofs.switch.EachStage.{each_table}
use Rattle.row_laws.proofs.stages.tables_do_so.Goals as goal

pub returns : goal.returns
returns c = each_table
