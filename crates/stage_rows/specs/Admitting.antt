-- When a network admits a unit: the unit is there, and the numbers of its rows lie within their fields.
use Rattle.std.specs.Prelude.{◌≡◌, true, Some, None}
use Rattle.ovn_base.specs.declared.address.Ip4.{Ip4}
use Rattle.ovn_base.specs.declared.address.Mac.{Mac}
use Rattle.ovn_base.specs.declared.name.Name.{Name}
use Rattle.ovn_base.specs.names.ByName.{at}
use Rattle.nb_records.specs.Grammar.{IsAcl, IsRoute, IsNat, IsSwitchPort, IsRouterPort}
use Rattle.nb_records.specs.Network.{Network}
use Rattle.nb_records.specs.Switches.{applies, serves_at}
use Rattle.nb_records.specs.declared.balancer.LoadBalancer.{LoadBalancer}
use Rattle.nb_records.specs.declared.router.Nat.{Nat}
use Rattle.nb_records.specs.declared.router.Route.{Route}
use Rattle.nb_records.specs.declared.router.Router.{Router}
use Rattle.nb_records.specs.declared.router.RouterPort.{RouterPort}
use Rattle.nb_records.specs.declared.rule.Acl.{Acl}
use Rattle.nb_records.specs.declared.switch.Switch.{Switch}
use Rattle.nb_records.specs.declared.switch.SwitchPort.{SwitchPort}
use Rattle.logical_flows.specs.declared.unit.UnitId.{UnitId}
use Rattle.logical_flows.specs.declared.unit.UnitId.TheVariants as unit
use Rattle.stage_rows.specs.Units.{neighbour_named}

-- a port of a switch or of a router, and not both
pub data AdmitsPort (net : Network) (name : Name) : Type 0 where
  of_switch : (q : SwitchPort) → at net.switch_ports name ≡ Some q → at net.router_ports name ≡ None → IsSwitchPort q → AdmitsPort net name
  of_router : (q : RouterPort) → at net.switch_ports name ≡ None → at net.router_ports name ≡ Some q → IsRouterPort q → AdmitsPort net name

pub record AdmitsRule (net : Network) (name datapath : Name) : Type 0 where
  pub rule : Acl
  pub there : at net.acls name ≡ Some rule
  pub on : applies net datapath rule ≡ true
  pub is_rule : IsAcl rule

pub record AdmitsRoute (net : Network) (name : Name) : Type 0 where
  pub route : Route
  pub there : at net.routes name ≡ Some route
  pub is_route : IsRoute route

pub record AdmitsNeighbour (net : Network) (port : Name) (ip : Ip4) : Type 0 where
  pub mac : Mac
  pub there : neighbour_named net port ip ≡ Some mac

pub record AdmitsNat (net : Network) (name : Name) : Type 0 where
  pub nat : Nat
  pub there : at net.nats name ≡ Some nat
  pub is_nat : IsNat nat

pub record AdmitsBalancer (net : Network) (name datapath : Name) : Type 0 where
  pub balancer : LoadBalancer
  pub there : at net.load_balancers name ≡ Some balancer
  pub on : serves_at datapath balancer ≡ true

pub record AdmitsSwitch (net : Network) (name : Name) : Type 0 where
  pub record_of : Switch
  pub there : at net.switches name ≡ Some record_of

pub record AdmitsRouter (net : Network) (name : Name) : Type 0 where
  pub record_of : Router
  pub there : at net.routers name ≡ Some record_of

abbrev pub Admits : Network → UnitId → Type 0
Admits net (unit.Port q) = AdmitsPort net q
Admits net (unit.Rule r d) = AdmitsRule net r d
Admits net (unit.Route r) = AdmitsRoute net r
Admits net (unit.Neighbour port ip) = AdmitsNeighbour net port ip
Admits net (unit.Nat r) = AdmitsNat net r
Admits net (unit.Balancer b d) = AdmitsBalancer net b d
Admits net (unit.Switch d) = AdmitsSwitch net d
Admits net (unit.Router d) = AdmitsRouter net d
