use Rattle.northd_core.proofs.untouched.SameUnits.{untouched_stay}
use Rattle.northd_core.proofs.laws.untouched_units_stay.Goals as goal

pub returns : goal.returns
returns c = untouched_stay
