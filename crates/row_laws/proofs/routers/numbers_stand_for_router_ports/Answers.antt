use Rattle.row_laws.proofs.routers.RouterNumbers.{router_port_stands, no_router_port_stands}
use Rattle.row_laws.proofs.routers.numbers_stand_for_router_ports.Goals as goal

pub returns-clause-port : goal.returns-clause-port
returns-clause-port c = router_port_stands

pub returns-clause-none : goal.returns-clause-none
returns-clause-none c = no_router_port_stands
