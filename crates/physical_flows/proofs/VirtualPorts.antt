-- Where there is no router port, the ports of switches are virtual.
use Rattle.std.specs.Prelude.{◌≡◌, true, List, [], Some, None, Option, option_map, is_some, refl}
use Rattle.std.proofs.Common.{sym, ap, ◌∙◌}
use Rattle.std.proofs.lemmas.Bool.{false≢true}
use Rattle.nb_records.specs.Grammar.{HasItsRouterPort, IsInGrammar, IsSwitchPort}
use Rattle.nb_records.specs.Network.{Network, is_there, records_of}
use Rattle.nb_records.specs.Switches.{is_virtual_kind}
use Rattle.nb_records.specs.declared.kinds.Kind.TheVariants as kind
use Rattle.nb_records.specs.declared.record.Record.{Record}
use Rattle.nb_records.specs.declared.record.Record.TheVariants as row
use Rattle.nb_records.specs.declared.router.RouterPort.{RouterPort}
use Rattle.nb_records.specs.declared.switch.PortKind.{PortKind}
use Rattle.nb_records.specs.declared.switch.PortKind.TheVariants as port_kind
use Rattle.nb_records.specs.declared.switch.SwitchPort.{SwitchPort}
use Rattle.nb_rules.proofs.Validity.{unbroken}
use Rattle.nb_rules.specs.References.{references_of, to_given}
use Rattle.nb_rules.specs.Unbroken.{AreThere}
use Rattle.nb_rules.specs.Valid.{IsValid}
use Rattle.ovn_base.proofs.AmongLaws.{among_all, among_left, among_right, among_map}
use Rattle.ovn_base.proofs.ByNameLaws.{at_among}
use Rattle.ovn_base.specs.declared.name.Name.{Name}
use Rattle.ovn_base.specs.lists.Among.{Among}
use Rattle.ovn_base.specs.names.ByName.{at}
use Rattle.physical_flows.specs.Switched.{VirtualPortsLaw}

module _ (net : Network) (valid : IsValid net) (none : net.router_ports ≡ []) (q : Name) (port : SwitchPort) (found : at net.switch_ports q ≡ Some port) where
  among_records : Among (row.SwitchPort port) (records_of net)
  among_records =
      let r = row.SwitchPort port in
      let own = among_map (λ (e : Name × SwitchPort). row.SwitchPort e.1) (q, port) net.switch_ports (at_among net.switch_ports q port found) in
      among_left r _ _ (among_left r _ _ (among_left r _ _ (among_left r _ _ (among_left r _ _ (among_left r _ _ (among_left r _ _ (among_right r _ _ own)))))))

  in_grammar : IsSwitchPort port
  in_grammar = among_all IsInGrammar (row.SwitchPort port) (records_of net) valid.in_grammar among_records

  -- the router port that it names, if it names one, is there
  behind_there : AreThere net (to_given kind.RouterPort port.router_port)
  behind_there = (among_all (λ (r : Record). AreThere net (references_of r)) (row.SwitchPort port) (records_of net) ((unbroken net []).0 valid.unbroken).references among_records).1

  none_there : (name : Name) → ¬ (is_there net kind.RouterPort name ≡ true)
  none_there name there = false≢true (ap (λ (ports : List (Name × RouterPort)). is_some (option_map row.RouterPort (at ports name))) (sym none) ∙ there)

  by : (k : PortKind) (behind : Option Name) → HasItsRouterPort k behind → AreThere net (to_given kind.RouterPort behind) → is_virtual_kind k ≡ true
  by port_kind.Virtual behind fits there = refl
  by port_kind.Router None fits there = absurd fits
  by port_kind.Router (Some name) fits there = absurd (none_there name there.0)

pub virtual_ports : VirtualPortsLaw
virtual_ports net valid none q port found = by net valid none q port found port.kind port.router_port (in_grammar net valid none q port found).router_port (behind_there net valid none q port found)
