use Rattle.row_laws.proofs.agreeing.EachAgrees.{each_agrees_anywhere}
use Rattle.row_laws.proofs.anywhere.rows_agree.Goals as goal

pub returns : goal.returns
returns c = each_agrees_anywhere
