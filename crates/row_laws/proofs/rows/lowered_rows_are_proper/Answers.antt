use Rattle.row_laws.proofs.suited.RisingRows.{lowered_rows_proper}
use Rattle.row_laws.proofs.rows.lowered_rows_are_proper.Goals as goal

pub returns : goal.returns
returns c = lowered_rows_proper
