use Rattle.northd_core.proofs.LoweredRows.{sets_are}
use Rattle.northd_core.proofs.laws.sets_are_of_records.Goals as goal

pub returns : goal.returns
returns c = sets_are
