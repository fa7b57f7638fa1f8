use Rattle.row_laws.proofs.suited.LiveDatapaths.{can_lower}
use Rattle.row_laws.proofs.rows.rows_can_be_lowered.Goals as goal

pub returns : goal.returns
returns c = can_lower
