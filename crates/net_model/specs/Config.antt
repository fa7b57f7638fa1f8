-- The records with the chassis and the bindings, and where each port is at home.
use Rattle.std.specs.Prelude.{Bool, true, false, List, Option, Some, None, cond}
use Rattle.ovn_base.specs.declared.name.Name.{Name}
use Rattle.ovn_base.specs.names.ByName.{at}
use Rattle.ovn_base.specs.names.SameName.{same_name}
use Rattle.nb_records.specs.Network.{Network}
use Rattle.nb_records.specs.Switches.{is_named, router_port_behind}
use Rattle.nb_records.specs.declared.router.Router.{Router}
use Rattle.nb_records.specs.declared.router.RouterPort.{RouterPort}
use Rattle.nb_records.specs.declared.switch.PortKind.{PortKind}
use Rattle.nb_records.specs.declared.switch.PortKind.TheVariants as port_kind
use Rattle.nb_records.specs.declared.switch.Switch.{Switch}
use Rattle.nb_records.specs.declared.switch.SwitchPort.{SwitchPort}
use Rattle.tunnel_keys.specs.declared.owner.Identity.{Identity}

-- what a chassis works by
pub record Config : Type 0 where
  pub net : Network
  -- in order of name
  pub chassis : List Name
  -- each bound port with its chassis, in order of name
  pub bindings : List (Name × Name)

abbrev pub is_chassis : Config → Name → Bool
is_chassis c chassis = is_named chassis c.chassis

-- ---- identities

-- a record that is removed and added again is another: its name alone does not tell which it is
abbrev pub port_identity : SwitchPort → Identity
port_identity port = record { name = port.name; birth = port.birth }

abbrev pub switch_identity : Switch → Identity
switch_identity switch = record { name = switch.name; birth = switch.birth }

abbrev pub router_identity : Router → Identity
router_identity router = record { name = router.name; birth = router.birth }

-- ---- homes

pub data Home : Type 0 where
  nowhere : Home
  on : Name → Home
  everywhere : Home

-- the home of what there may be
abbrev pub home_if : {X : Type 0} → (X → Home) → Option X → Home
home_if f None = nowhere
home_if f (Some x) = f x

-- a router without a chassis is distributed: it is at home on every chassis; a gateway router is at home on its own while that is there
abbrev pub chassis_home : Config → Option Name → Home
chassis_home c None = everywhere
chassis_home c (Some chassis) = cond (is_chassis c chassis) (on chassis) nowhere

abbrev pub home_of_router : Config → Router → Home
home_of_router c router = chassis_home c router.chassis

-- a router port is at home where its router is
abbrev pub home_of_router_port : Config → RouterPort → Home
home_of_router_port c p = home_if (home_of_router c) (at c.net.routers p.router)

-- a virtual port is at home where it is bound, a port to a router where the router port behind it is
abbrev pub home_by_kind : Config → SwitchPort → PortKind → Home
home_by_kind c port port_kind.Virtual = home_if on (at c.bindings port.name)
home_by_kind c port port_kind.Router = home_if (home_of_router_port c) (router_port_behind c.net port)

abbrev pub home_of : Config → SwitchPort → Home
home_of c port = home_by_kind c port port.kind

-- the home is this chassis alone
abbrev pub is_on : Name → Home → Bool
is_on here nowhere = false
is_on here (on home) = same_name home here
is_on here everywhere = false

-- the home is one chassis, whichever it is
abbrev pub is_on_one : Home → Bool
is_on_one nowhere = false
is_on_one (on home) = true
is_on_one everywhere = false

-- the home is this chassis, or every one
abbrev pub is_here : Name → Home → Bool
is_here here nowhere = false
is_here here (on home) = same_name home here
is_here here everywhere = true
