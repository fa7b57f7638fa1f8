-- Valid records.
use Rattle.std.specs.Prelude.{◌≡◌, List, [], None}
use Rattle.std.specs.List.{AllByRecursion}
use Rattle.ovn_base.specs.declared.name.Name.{Name}
use Rattle.ovn_base.specs.names.ByName.{at}
use Rattle.nb_records.specs.Grammar.{IsInGrammar, IsDirected}
use Rattle.nb_records.specs.Network.{Network, AreInOrder, records_of}
use Rattle.nb_records.specs.declared.router.Nat.{Nat}
use Rattle.nb_records.specs.declared.router.Route.{Route}
use Rattle.nb_records.specs.declared.router.Router.{Router}
use Rattle.nb_records.specs.declared.router.RouterPort.{RouterPort}
use Rattle.nb_records.specs.declared.router.StaticMac.{StaticMac}
use Rattle.nb_records.specs.declared.balancer.LoadBalancer.{LoadBalancer}
use Rattle.nb_records.specs.declared.rule.Acl.{Acl}
use Rattle.nb_records.specs.declared.rule.AddressSet.{AddressSet}
use Rattle.nb_records.specs.declared.rule.PortGroup.{PortGroup}
use Rattle.nb_records.specs.declared.switch.Switch.{Switch}
use Rattle.nb_records.specs.declared.switch.SwitchPort.{SwitchPort}
use Rattle.nb_rules.specs.FirstBroken.{first_broken}

-- each entry stands at its record's own name
abbrev pub AreAtTheirNames : {X : Type 0} → (X → Name) → List (Name × X) → Type 0
AreAtTheirNames name entries = AllByRecursion (λ e. name e.1 ≡ e.0) entries

pub record AllAtTheirNames (net : Network) : Type 0 where
  pub switches : AreAtTheirNames (λ (r : Switch). r.name) net.switches
  pub routers : AreAtTheirNames (λ (r : Router). r.name) net.routers
  pub router_ports : AreAtTheirNames (λ (r : RouterPort). r.name) net.router_ports
  pub switch_ports : AreAtTheirNames (λ (r : SwitchPort). r.name) net.switch_ports
  pub address_sets : AreAtTheirNames (λ (r : AddressSet). r.name) net.address_sets
  pub port_groups : AreAtTheirNames (λ (r : PortGroup). r.name) net.port_groups
  pub acls : AreAtTheirNames (λ (r : Acl). r.name) net.acls
  pub routes : AreAtTheirNames (λ (r : Route). r.name) net.routes
  pub nats : AreAtTheirNames (λ (r : Nat). r.name) net.nats
  pub load_balancers : AreAtTheirNames (λ (r : LoadBalancer). r.name) net.load_balancers
  pub static_macs : AreAtTheirNames (λ (r : StaticMac). r.name) net.static_macs

-- no name stands in both
abbrev pub AreApart : {X Y : Type 0} → List (Name × X) → List (Name × Y) → Type 0
AreApart entries others = AllByRecursion (λ e. at others e.0 ≡ None) entries

-- The records are in order, each at its own name, once in its namespace, and in its grammar; no clause is broken.
pub record IsValid (net : Network) : Type 0 where
  pub in_order : AreInOrder net
  pub named : AllAtTheirNames net
  pub datapaths : AreApart net.switches net.routers
  pub ports : AreApart net.switch_ports net.router_ports
  pub in_grammar : AllByRecursion IsInGrammar (records_of net)
  pub directed : AllByRecursion (λ (e : Name × Acl). IsDirected e.1) net.acls
  pub unbroken : first_broken net [] ≡ None
