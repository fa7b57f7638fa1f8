use Rattle.row_laws.proofs.records.StandsFor.{port_stands, none_stands}
use Rattle.row_laws.proofs.rows.numbers_stand_for_ports.Goals as goal

pub returns-clause-port : goal.returns-clause-port
returns-clause-port c = port_stands

pub returns-clause-none : goal.returns-clause-none
returns-clause-none c = none_stands
