use Rattle.row_laws.proofs.suited.NarrowRows.{rows_narrow}
use Rattle.row_laws.proofs.rows.rows_are_narrow.Goals as goal

pub returns : goal.returns
returns c = rows_narrow
