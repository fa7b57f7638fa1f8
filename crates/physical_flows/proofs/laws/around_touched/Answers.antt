use Rattle.physical_flows.proofs.TouchedUnits.{around_edit, around_bind, around_chassis}
use Rattle.physical_flows.proofs.laws.around_touched.Goals as goal

pub returns-clause-edit : goal.returns-clause-edit
returns-clause-edit c = around_edit

pub returns-clause-bind : goal.returns-clause-bind
returns-clause-bind c = around_bind

pub returns-clause-chassis : goal.returns-clause-chassis
returns-clause-chassis c = around_chassis
