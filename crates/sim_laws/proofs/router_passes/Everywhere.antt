-- Where no router has a chassis, the ports of switches that lead to routers are at home everywhere.
use Rattle.std.specs.Prelude.{◌≡◌, Bool, true, false, Option, Some, None, option_map, is_some, refl}
use Rattle.std.specs.Option.{option_and_then}
use Rattle.std.proofs.Common.{sym, ap, ◌∙◌}
use Rattle.std.proofs.lemmas.Bool.{false≢true}
use Rattle.nb_records.specs.Grammar.{HasItsRouterPort}
use Rattle.nb_records.specs.Network.{Network, records_of}
use Rattle.nb_records.specs.Switches.{is_virtual, is_virtual_kind}
use Rattle.nb_records.specs.declared.kinds.Kind.TheVariants as kind
use Rattle.nb_records.specs.declared.record.Record.{Record}
use Rattle.nb_records.specs.declared.record.Record.TheVariants as row
use Rattle.nb_records.specs.declared.router.RouterPort.{RouterPort}
use Rattle.nb_records.specs.declared.switch.PortKind.{PortKind}
use Rattle.nb_records.specs.declared.switch.PortKind.TheVariants as port_kind
use Rattle.nb_records.specs.declared.switch.SwitchPort.{SwitchPort}
use Rattle.nb_rules.specs.References.{references_of, to_given}
use Rattle.nb_rules.specs.Unbroken.{AreThere}
use Rattle.nb_rules.specs.Valid.{IsValid}
use Rattle.net_model.specs.Config.{Config, everywhere, is_on, home_if, chassis_home, home_of, home_by_kind, home_of_router, home_of_router_port}
use Rattle.ovn_base.proofs.AmongLaws.{among_all}
use Rattle.ovn_base.specs.declared.name.Name.{Name}
use Rattle.ovn_base.specs.names.ByName.{at}
use Rattle.row_laws.proofs.records.SwitchPorts.{router_kind}
use Rattle.row_laws.proofs.records.ValidPorts.{whole, port_row, in_grammar}
use Rattle.row_laws.proofs.routers.TakenAtRouter.{on_router}
use Rattle.row_laws.specs.Distributed.{AreDistributed}

module _ (net : Network) (valid : IsValid net) (q : Name) (port : SwitchPort) (found : at net.switch_ports q ≡ Some port) where
  -- the router port that it names is there
  named_there : AreThere net (to_given kind.RouterPort port.router_port)
  named_there = (among_all (λ (r : Record). AreThere net (references_of r)) (row.SwitchPort port) (records_of net) (whole net valid).references (port_row net valid q port found)).1

  abbrev Behind : Option Name → Type 0
  Behind name = (n : Name) × (r : RouterPort) × (at net.router_ports n ≡ Some r) × (option_and_then (at net.router_ports) name ≡ Some r)

  is_behind : (n : Name) (o : Option RouterPort) → at net.router_ports n ≡ o → is_some (option_map row.RouterPort o) ≡ true → Behind (Some n)
  is_behind n None is there = absurd (false≢true there)
  is_behind n (Some r) is there = (n, r, is, is)

  some_behind : (k : PortKind) (name : Option Name) → HasItsRouterPort k name → AreThere net (to_given kind.RouterPort name) → is_virtual_kind k ≡ false → Behind name
  some_behind port_kind.Virtual name fits there leads = absurd (false≢true (sym leads))
  some_behind port_kind.Router None fits there leads = absurd fits
  some_behind port_kind.Router (Some n) fits there leads = is_behind n (at net.router_ports n) refl there.0

pub everywhere_so : (c : Config) → IsValid c.net → AreDistributed c.net → (q : Name) (port : SwitchPort) → at c.net.switch_ports q ≡ Some port → is_virtual port ≡ false → home_of c port ≡ everywhere
everywhere_so c valid distributed q port found leads =
    let b = some_behind c.net valid q port found port.kind port.router_port (in_grammar c.net valid q port found).router_port (named_there c.net valid q port found) leads in
    let router = on_router c.net valid b.0 b.1 b.2 in
    ap (home_by_kind c port) (router_kind port.kind leads) ∙ ap (home_if (home_of_router_port c)) b.3 ∙ ap (home_if (home_of_router c)) router.1 ∙ ap (chassis_home c) (distributed b.1.router router.0 router.1)

-- so a port that is at home on one chassis is virtual
pub reached_virtual : (c : Config) → IsValid c.net → AreDistributed c.net → (here q : Name) (port : SwitchPort) → at c.net.switch_ports q ≡ Some port → is_on here (home_of c port) ≡ true → is_virtual port ≡ true
reached_virtual c valid distributed here q port found reached = by (is_virtual port) refl
  where
    by : (b : Bool) → is_virtual port ≡ b → is_virtual port ≡ true
    by true is = is
    by false leads = absurd (false≢true (sym (ap (is_on here) (everywhere_so c valid distributed q port found leads)) ∙ reached))
