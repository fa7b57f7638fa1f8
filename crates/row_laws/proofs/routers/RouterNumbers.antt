-- Which numbers stand for ports of routers: the live key of a port for that port, and what is no port's key for none.
use Rattle.std.specs.Prelude.{Option, option_map}
use Rattle.std.proofs.Common.{ap}
use Rattle.ovn_base.specs.names.ByName.{at}
use Rattle.nb_records.specs.declared.router.RouterPort.{RouterPort}
use Rattle.row_laws.proofs.records.StandsFor.{key_stands, no_key_stands, named_by}
use Rattle.row_laws.proofs.routers.TakenAtRouter.{port_named}
use Rattle.row_laws.specs.routers.RouterCopies.{router_port_identity, router_roster}
use Rattle.row_laws.specs.routers.RouterNumbers.{RouterPortStandsLaw, NoRouterPortStandsLaw}

pub router_port_stands : RouterPortStandsLaw
router_port_stands net keys valid hold i there n key =
    key_stands keys hold (router_roster net) i.router (router_port_identity i) (ap (λ (o : Option RouterPort). option_map router_port_identity o) there) (λ q id is. named_by router_port_identity (at net.router_ports q) q (λ port e. port_named net valid q port e) id is) n
    key

pub no_router_port_stands : NoRouterPortStandsLaw
no_router_port_stands net keys hold d n outside = no_key_stands keys hold (router_roster net) d n outside
