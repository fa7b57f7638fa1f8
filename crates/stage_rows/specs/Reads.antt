-- The facts that each unit reads, and when two networks agree on a fact.
use Rattle.std.specs.Prelude.{◌≡◌, List, [], ◌∷◌, Option, Some, None, option_map}
use Rattle.ovn_base.specs.declared.name.Name.{Name}
use Rattle.ovn_base.specs.lists.Among.{Among}
use Rattle.ovn_base.specs.names.ByName.{at}
use Rattle.nb_records.specs.Network.{Network, is_online}
use Rattle.nb_records.specs.Routers.{router_ports_of}
use Rattle.nb_records.specs.Switches.{is_stateful, has_balancer}
use Rattle.nb_records.specs.declared.router.Route.{Route}
use Rattle.nb_records.specs.declared.router.RouterPort.{RouterPort}
use Rattle.nb_records.specs.declared.switch.SwitchPort.{SwitchPort}
use Rattle.logical_flows.specs.declared.fact.Fact.{Fact}
use Rattle.logical_flows.specs.declared.fact.Fact.TheVariants as fact
use Rattle.logical_flows.specs.declared.unit.UnitId.{UnitId}
use Rattle.logical_flows.specs.declared.unit.UnitId.TheVariants as unit
use Rattle.stage_rows.specs.Facts.{answered_named}
use Rattle.stage_rows.specs.Rows.{on_some}
use Rattle.stage_rows.specs.SwitchRows.{some_take_unknown}
use Rattle.stage_rows.specs.Admitting.{Admits}
use Rattle.stage_rows.specs.Units.{neighbour_named, translates_named, rows_of}

-- ---- reads

-- of a router port, also of one behind a port to a router
abbrev pub router_port_reads : Name → List Fact
router_port_reads q = fact.RouterPort q ∷ fact.Answered q ∷ []

abbrev pub switch_port_reads : SwitchPort → List Fact
switch_port_reads q = fact.Stateful q.switch ∷ fact.Balanced q.switch ∷ on_some q.router_port router_port_reads

abbrev pub port_reads : Name → Option SwitchPort → List Fact
port_reads q (Some x) = fact.SwitchPort q ∷ switch_port_reads x
port_reads q None = router_port_reads q

abbrev pub reads_of : Network → UnitId → List Fact
reads_of net (unit.Port q) = port_reads q (at net.switch_ports q)
reads_of net (unit.Rule r d) = fact.Rule r ∷ []
reads_of net (unit.Route r) = fact.Route r ∷ on_some (at net.routes r) (λ (x : Route). fact.PortsOf x.router ∷ [])
reads_of net (unit.Neighbour port ip) = fact.Neighbour port ip ∷ fact.PortMac port ∷ fact.RouterOf port ∷ []
reads_of net (unit.Nat r) = fact.Nat r ∷ []
reads_of net (unit.Balancer b d) = fact.Balancer b ∷ fact.Marks b ∷ []
reads_of net (unit.Switch d) = fact.Stateful d ∷ fact.Balanced d ∷ fact.TakesUnknown d ∷ []
reads_of net (unit.Router d) = fact.Translates d ∷ []

-- ---- agreement

-- the fact has the same value in both networks; a record's value has its birth
abbrev pub Agree : Network → Network → Fact → Type 0
Agree f g (fact.SwitchPort q) = at f.switch_ports q ≡ at g.switch_ports q
Agree f g (fact.RouterPort q) = at f.router_ports q ≡ at g.router_ports q
Agree f g (fact.Answered q) = answered_named f q ≡ answered_named g q
Agree f g (fact.Stateful s) = is_stateful f s ≡ is_stateful g s
Agree f g (fact.Balanced s) = has_balancer f s ≡ has_balancer g s
Agree f g (fact.TakesUnknown s) = some_take_unknown f s ≡ some_take_unknown g s
Agree f g (fact.Rule r) = at f.acls r ≡ at g.acls r
Agree f g (fact.Route r) = at f.routes r ≡ at g.routes r
Agree f g (fact.PortsOf r) = router_ports_of f r ≡ router_ports_of g r
Agree f g (fact.Neighbour port ip) = neighbour_named f port ip ≡ neighbour_named g port ip
Agree f g (fact.PortMac port) = option_map (λ (q : RouterPort). q.mac) (at f.router_ports port) ≡ option_map (λ (q : RouterPort). q.mac) (at g.router_ports port)
Agree f g (fact.RouterOf port) = option_map (λ (q : RouterPort). q.router) (at f.router_ports port) ≡ option_map (λ (q : RouterPort). q.router) (at g.router_ports port)
Agree f g (fact.Nat r) = at f.nats r ≡ at g.nats r
Agree f g (fact.Balancer b) = at f.load_balancers b ≡ at g.load_balancers b
Agree f g (fact.Marks b) = is_online f b ≡ is_online g b
Agree f g (fact.Translates r) = translates_named f r ≡ translates_named g r

-- all facts that the unit reads in the first have the same values in the second
abbrev pub AgreeOnReads : Network → Network → UnitId → Type 0
AgreeOnReads f g u = (x : Fact) → Among x (reads_of f u) → Agree f g x

-- the unit reads the same facts in both, and has the same rows
pub record IsSameUnit (f g : Network) (u : UnitId) : Type 0 where
  pub reads : reads_of f u ≡ reads_of g u
  pub rows : rows_of f u ≡ rows_of g u

-- So it is of every unit that both networks have.
abbrev pub ReadsLaw : Type 0
ReadsLaw = (f g : Network) (u : UnitId) → Admits f u → Admits g u → AgreeOnReads f g u → IsSameUnit f g u
