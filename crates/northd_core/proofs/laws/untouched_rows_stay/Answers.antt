use Rattle.northd_core.proofs.untouched.TouchedRows.{touched_stay}
use Rattle.northd_core.proofs.laws.untouched_rows_stay.Goals as goal

pub returns : goal.returns
returns c = touched_stay
