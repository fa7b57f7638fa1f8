use Rattle.physical_flows.proofs.UnitLaws.{around_units, keyed_units_once, all_around_alike}
use Rattle.physical_flows.proofs.laws.units_around.Goals as goal

pub returns-clause-units : goal.returns-clause-units
returns-clause-units c = around_units

pub returns-clause-once : goal.returns-clause-once
returns-clause-once c = keyed_units_once

pub returns-clause-alike : goal.returns-clause-alike
returns-clause-alike c = all_around_alike
