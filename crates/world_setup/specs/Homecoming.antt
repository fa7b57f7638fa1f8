-- The gateway routers that come home with records and chassis.
use Rattle.std.specs.Prelude.{List, [], ◌∷◌, Option, Some, None, cond, is_none}
use Rattle.conn_zones.specs.Zoning.{KnownHomes}
use Rattle.nb_records.specs.Network.{Network}
use Rattle.nb_records.specs.Switches.{is_named}
use Rattle.nb_records.specs.declared.router.Router.{Router}
use Rattle.ovn_base.specs.declared.name.Name.{Name}
use Rattle.ovn_base.specs.names.ByName.{at}
use Rattle.physical_flows.specs.Bindings.{router_homes}

-- the homes with these records and these chassis, where ports stay
abbrev pub homes_by : KnownHomes → Network → List Name → KnownHomes
homes_by before net chassis = record { ports = before.ports; routers = router_homes (record { net = net; chassis = chassis; bindings = before.ports }) }

-- the home of a router with that chassis, if it has one and that is among these
abbrev pub chassis_among : List Name → Option Name → Option Name
chassis_among chassis None = None
chassis_among chassis (Some home) = cond (is_named home chassis) (Some home) None

abbrev pub home_among : List Name → Router → Option Name
home_among chassis router = chassis_among chassis router.chassis

-- a router that has this home then comes home, where it is at home nowhere yet
abbrev pub comers_of : KnownHomes → Name → Option Name → List (Name × Name)
comers_of before name None = []
comers_of before name (Some home) = cond (is_none (at before.routers name)) ((name, home) ∷ []) []
