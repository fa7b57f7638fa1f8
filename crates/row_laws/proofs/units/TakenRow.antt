-- The row that is taken at a stage of a switch: of which unit it is, that its terms hold, and that no row above it holds.
use Rattle.std.specs.Prelude.{◌≡◌, ◌<◌, ℕ, true, List, [], ◌∷◌, Some, Option, option_map}
use Rattle.std.specs.List.{list_all}
use Rattle.std.proofs.Common.{sym, ap, ◌∙◌, subst, inl, inr}
use Rattle.std.proofs.lemmas.Option.{same_Some}
use Rattle.ovn_base.proofs.AmongLaws.{among_cases, among_none}
use Rattle.ovn_base.specs.declared.name.Name.{Name}
use Rattle.ovn_base.specs.lists.Among.{Among}
use Rattle.ovn_base.specs.names.ByName.{at}
use Rattle.inet_packet.specs.declared.regs.Regs.{Regs}
use Rattle.match_cubes.proofs.WholeLaws.{whole_in_range}
use Rattle.match_cubes.specs.Suited.{HasFieldsInRange}
use Rattle.match_language.specs.declared.expr.Expr.{Expr}
use Rattle.nb_records.specs.Network.{Network}
use Rattle.nb_records.specs.Switches.{is_stateful}
use Rattle.nb_records.specs.declared.switch.Switch.{Switch}
use Rattle.nb_records.specs.declared.switch.SwitchPort.{SwitchPort}
use Rattle.nb_rules.specs.Valid.{IsValid}
use Rattle.logical_flows.specs.Stages.{stage_table}
use Rattle.logical_flows.specs.declared.action.Action.{Action}
use Rattle.logical_flows.specs.declared.flow.LFlow.{LFlow}
use Rattle.logical_flows.specs.declared.stage.Pipeline.{Pipeline}
use Rattle.logical_flows.specs.declared.stage.Pipeline.TheVariants.{Ingress, Egress}
use Rattle.logical_flows.specs.declared.stage.Stage.{Stage}
use Rattle.stage_rows.specs.Rows.{match_row, in_is, out_is}
use Rattle.stage_rows.specs.SwitchRows.{some_take_unknown}
use Rattle.stage_rows.specs.Units.{switch_port_rows, switch_rows}
use Rattle.tunnel_keys.specs.Same.{identity_exact, identity_own}
use Rattle.tunnel_keys.specs.declared.owner.Identity.{Identity}
use Rattle.net_model.specs.Config.{port_identity}
use Rattle.net_model.specs.Sights.{Sight, roster_of, is_live_one, holds_at}
use Rattle.row_laws.proofs.units.RowUnits.{SwitchRow, row_unit, a_port_row, a_switch_row}
use Rattle.row_laws.proofs.units.StageRows.{is_of_switches}
use Rattle.row_laws.proofs.terms.Terms.{says_all, says_in, says_out}
use Rattle.row_laws.proofs.records.ValidPorts.{own_place, on_switch}
use Rattle.row_laws.specs.Copies.{Copy, IsAtPort}
use Rattle.row_laws.specs.Rows.{IsRowIn, RowHolds, IsBestRow}

-- the row of a list of one
pub among_one : {X : Type 0} (x y : X) → Among x (y ∷ []) → x ≡ y
among_one x y m = elim (among_cases x y [] m) [ inl e ↦ e | inr n ↦ absurd (among_none x n) ]

module _ (net : Network) (valid : IsValid net) where
  -- ---- ports by identity

  live_is : (q : Name) (port : SwitchPort) → at net.switch_ports q ≡ Some port → (roster_of net).live q ≡ Some (port_identity port)
  live_is q port is = ap (λ (o : Option SwitchPort). option_map port_identity o) is

  module _ (id : Option Identity) (i : SwitchPort) (there : at net.switch_ports i.name ≡ Some i) (is : id ≡ Some (port_identity i)) where
    -- the port of a name is the one that is meant
    pub port_meant : (q : Name) (port : SwitchPort) → at net.switch_ports q ≡ Some port → is_live_one id ((roster_of net).live port.name) ≡ true → port ≡ i
    port_meant q port found h =
        let own = own_place net valid q port found in
        let same = identity_exact (port_identity i) (port_identity port) (sym (λ k. is_live_one (is k) (live_is port.name port own k)) ∙ h) in
        same_Some port i (sym own ∙ ap (λ (x : Identity). at net.switch_ports x.name) (sym same) ∙ there)

    pub port_own : is_live_one id ((roster_of net).live i.name) ≡ true
    port_own = (λ k. is_live_one (is k) (live_is i.name i there k)) ∙ identity_own (port_identity i)

-- ---- rows of terms

-- all of the terms hold
abbrev pub AllSay : Network → Sight → List Expr → Type 0
AllSay net sight terms = list_all (λ x. holds_at (roster_of net) sight x) terms ≡ true

module _ (net : Network) (s : Stage) (sight : Sight) (regs : Regs) where
  -- a row that asks for no register holds where its terms do
  pub row_holds : (priority : ℕ) (terms : List Expr) (actions : List Action) → AllSay net sight terms → RowHolds (roster_of net) regs sight (match_row s priority terms actions)
  row_holds priority terms actions h = record { registers = λ x m. absurd (among_none x m); matching = says_all (roster_of net) sight terms ∙ h }

  pub terms_hold : (r : LFlow) → RowHolds (roster_of net) regs sight r → (priority : ℕ) (terms : List Expr) (actions : List Action) → r ≡ match_row s priority terms actions → AllSay net sight terms
  terms_hold r holds priority terms actions e = sym (says_all (roster_of net) sight terms) ∙ subst (λ (z : LFlow). holds_at (roster_of net) sight z.matching ≡ true) e holds.matching

-- ---- the row that is taken

-- the row is taken at the stage, which is one of switches
pub record IsTaken (net : Network) (s : Stage) (way : Pipeline) (c : Copy) (regs : Regs) (r : LFlow) : Type 0 where
  pub valid : IsValid net
  pub of : is_of_switches s ≡ true
  pub at_port : IsAtPort net way c regs
  pub best : IsBestRow net (roster_of net) (stage_table s) c.port.switch regs c.sight r

module _ {net : Network} {s : Stage} {way : Pipeline} {c : Copy} {regs : Regs} {r : LFlow} (t : IsTaken net s way c regs r) where
  pub the_switch : (sw : Switch) × (at net.switches c.port.switch ≡ Some sw)
  the_switch = on_switch net t.valid c.port.name c.port t.at_port.there

  pub fields : HasFieldsInRange c.sight.packet
  fields = whole_in_range c.sight.packet t.at_port.whole

  pub its_unit : SwitchRow net s c.port.switch r
  its_unit = row_unit net t.valid c.port.switch the_switch.0 the_switch.1 s t.of r t.best.is_row

  -- its terms hold
  pub taken_terms : (priority : ℕ) (terms : List Expr) (actions : List Action) → r ≡ match_row s priority terms actions → AllSay net c.sight terms
  taken_terms = terms_hold net s c.sight regs r t.best.holds_here

  -- no row whose terms hold is above it: none of a port of the switch, and none of the switch
  module _ (low : ℕ) (is : r.priority ≡ low) (priority : ℕ) (terms : List Expr) (actions : List Action) (less : low < priority) (say : AllSay net c.sight terms) where
    not_above : IsRowIn net (stage_table s) c.port.switch (match_row s priority terms actions) → ⊥
    not_above row = t.best.unbeaten (match_row s priority terms actions) row (row_holds net s c.sight regs priority terms actions say) (inl (subst (λ n. n < priority) (sym is) less))

    pub no_port_above : (q : Name) (port : SwitchPort) → at net.switch_ports q ≡ Some port → port.switch ≡ c.port.switch → Among (match_row s priority terms actions) (switch_port_rows s net port) → ⊥
    no_port_above q port found on m = not_above (a_port_row net s (match_row s priority terms actions) c.port.switch q port found on m)

    pub no_switch_above : Among (match_row s priority terms actions) (switch_rows s (is_stateful net c.port.switch) (some_take_unknown net c.port.switch)) → ⊥
    no_switch_above m = not_above (a_switch_row net s (match_row s priority terms actions) c.port.switch the_switch.0 the_switch.1 m)

-- ---- its port

module _ {net : Network} {s : Stage} {c : Copy} {regs : Regs} {r : LFlow} where
  -- a port that is that of entry
  pub entry_meant : (t : IsTaken net s Ingress c regs r) (q : Name) (port : SwitchPort) → at net.switch_ports q ≡ Some port → holds_at (roster_of net) c.sight (in_is port.name) ≡ true → port ≡ c.port
  entry_meant t q port found h =
      port_meant net t.valid (Some c.sight.in_port) c.port t.at_port.there (ap (λ (x : Identity). Some x) t.at_port.is_port) q port found (sym (says_in (roster_of net) c.sight port.name) ∙ h)

  pub entry_own : (t : IsTaken net s Ingress c regs r) → holds_at (roster_of net) c.sight (in_is c.port.name) ≡ true
  entry_own t = says_in (roster_of net) c.sight c.port.name ∙ port_own net t.valid (Some c.sight.in_port) c.port t.at_port.there (ap (λ (x : Identity). Some x) t.at_port.is_port)

  -- and one that is that of exit
  pub exit_meant : (t : IsTaken net s Egress c regs r) (q : Name) (port : SwitchPort) → at net.switch_ports q ≡ Some port → holds_at (roster_of net) c.sight (out_is port.name) ≡ true → port ≡ c.port
  exit_meant t q port found h = port_meant net t.valid c.sight.out_port c.port t.at_port.there t.at_port.is_port q port found (sym (says_out (roster_of net) c.sight port.name) ∙ h)

  pub exit_own : (t : IsTaken net s Egress c regs r) → holds_at (roster_of net) c.sight (out_is c.port.name) ≡ true
  exit_own t = says_out (roster_of net) c.sight c.port.name ∙ port_own net t.valid c.sight.out_port c.port t.at_port.there t.at_port.is_port
