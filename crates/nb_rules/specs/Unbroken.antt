-- What holds of records that break no clause.
use Rattle.std.specs.Prelude.{◌≡◌, ◌≤◌, ◌+◌, true, false, length, List, None}
use Rattle.std.specs.List.{AllByRecursion}
use Rattle.ovn_base.specs.declared.limits.TheConstants.{MAX_DATAPATHS, MAX_PORTS, MAX_ACLS, MAX_WIDTH}
use Rattle.ovn_base.specs.declared.name.Name.{Name}
use Rattle.nb_records.specs.Network.{Network, is_there, records_of}
use Rattle.nb_records.specs.declared.record.Record.{Record}
use Rattle.nb_records.specs.declared.router.Route.{Route}
use Rattle.nb_records.specs.declared.router.Router.{Router}
use Rattle.nb_records.specs.declared.router.RouterPort.{RouterPort}
use Rattle.nb_records.specs.declared.rule.Acl.{Acl}
use Rattle.nb_records.specs.declared.switch.Switch.{Switch}
use Rattle.nb_records.specs.declared.switch.SwitchPort.{SwitchPort}
use Rattle.nb_rules.specs.BadAddresses.{has_bad_address}
use Rattle.nb_rules.specs.Gateways.{needs_chassis}
use Rattle.nb_rules.specs.Holders.{shared_mac, shared_ip, repeated_ip, repeated_vip, bound_twice}
use Rattle.nb_rules.specs.Peers.{has_bad_peer}
use Rattle.nb_rules.specs.Prefixes.{repeats_prefix, has_network}
use Rattle.nb_rules.specs.References.{Reference, references_of}
use Rattle.nb_rules.specs.Widths.{rule_width, all_cubes}

-- each record that another names is there
abbrev pub AreThere : Network → List Reference → Type 0
AreThere net references = AllByRecursion (λ (x : Reference). is_there net x.0 x.1 ≡ true) references

-- the clauses one by one, each of all records
pub record AreUnbroken (net : Network) : Type 0 where
  pub references : AllByRecursion (λ (r : Record). AreThere net (references_of r)) (records_of net)
  pub addresses : AllByRecursion (λ (r : Record). has_bad_address r ≡ false) (records_of net)
  pub peers : AllByRecursion (λ (e : Name × RouterPort). has_bad_peer net e.1 ≡ false) net.router_ports
  pub macs : AllByRecursion (λ (e : Name × SwitchPort). shared_mac net e.1 ≡ None) net.switch_ports
  pub ips : AllByRecursion (λ (e : Name × SwitchPort). shared_ip net e.1 ≡ None) net.switch_ports
  pub networks : AllByRecursion (λ (e : Name × RouterPort). repeated_ip net e.1 ≡ None) net.router_ports
  pub switch_vips : AllByRecursion (λ (e : Name × Switch). repeated_vip net e.1.name ≡ None) net.switches
  pub router_vips : AllByRecursion (λ (e : Name × Router). repeated_vip net e.1.name ≡ None) net.routers
  pub bindings : AllByRecursion (λ (e : Name × RouterPort). bound_twice net e.1.name ≡ None) net.router_ports
  pub prefixes : AllByRecursion (λ (r : Record). repeats_prefix net r ≡ false) (records_of net)
  pub next_hops : AllByRecursion (λ (e : Name × Route). has_network net e.1 ≡ true) net.routes
  pub chassis : AllByRecursion (λ (r : Record). needs_chassis net r ≡ false) (records_of net)
  pub widths : AllByRecursion (λ (e : Name × Acl). rule_width net e.1 ≤ MAX_WIDTH) net.acls
  pub datapaths : length net.switches + length net.routers ≤ MAX_DATAPATHS
  pub ports : length net.router_ports + length net.switch_ports ≤ MAX_PORTS
  pub acls : length net.acls ≤ MAX_ACLS
  pub cubes : all_cubes net ≤ MAX_WIDTH
