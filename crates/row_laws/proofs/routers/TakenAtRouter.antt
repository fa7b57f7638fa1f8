-- The row that is taken at a stage of a router: of which unit it is, that it holds, and that no row above it does.
use Rattle.std.specs.Prelude.{◌≡◌, ◌<◌, ℕ, true, false, List, Option, Some, None, option_map, is_some}
use Rattle.std.specs.List.{list_all}
use Rattle.std.proofs.Common.{refl, sym, ap, ◌∙◌, subst, inl}
use Rattle.std.proofs.lemmas.Bool.{false≢true}
use Rattle.std.proofs.lemmas.Option.{same_Some}
use Rattle.ovn_base.proofs.AmongLaws.{among_all, among_left, among_right, among_map, among_none}
use Rattle.ovn_base.proofs.ByNameLaws.{at_among}
use Rattle.ovn_base.specs.declared.name.Name.{Name}
use Rattle.ovn_base.specs.lists.Among.{Among}
use Rattle.ovn_base.specs.names.ByName.{at}
use Rattle.inet_packet.specs.declared.regs.Regs.{Regs}
use Rattle.match_cubes.proofs.WholeLaws.{whole_in_range}
use Rattle.match_cubes.specs.Suited.{HasFieldsInRange}
use Rattle.match_language.specs.declared.expr.Expr.{Expr}
use Rattle.nb_records.specs.Grammar.{IsInGrammar, IsRouterPort}
use Rattle.nb_records.specs.Network.{Network, records_of}
use Rattle.nb_records.specs.Routers.{translates}
use Rattle.nb_records.specs.declared.record.Record.{Record}
use Rattle.nb_records.specs.declared.record.Record.TheVariants as row
use Rattle.nb_records.specs.declared.router.Router.{Router}
use Rattle.nb_records.specs.declared.router.RouterPort.{RouterPort}
use Rattle.nb_rules.specs.References.{references_of}
use Rattle.nb_rules.specs.Unbroken.{AreThere}
use Rattle.nb_rules.specs.Valid.{IsValid}
use Rattle.logical_flows.specs.Stages.{stage_table}
use Rattle.logical_flows.specs.declared.action.Action.{Action}
use Rattle.logical_flows.specs.declared.flow.LFlow.{LFlow}
use Rattle.logical_flows.specs.declared.stage.Stage.{Stage}
use Rattle.stage_rows.specs.Rows.{match_row, in_is}
use Rattle.stage_rows.specs.Units.{router_port_rows, router_rows}
use Rattle.tunnel_keys.specs.Same.{identity_exact, identity_own}
use Rattle.tunnel_keys.specs.declared.owner.Identity.{Identity}
use Rattle.net_model.specs.Sights.{Sight, is_live_one, holds_at}
use Rattle.row_laws.proofs.records.ValidPorts.{whole}
use Rattle.row_laws.proofs.routers.RouterUnits.{RouterRow, row_unit, a_port_row, a_router_row}
use Rattle.row_laws.proofs.terms.Terms.{says_all, says_in}
use Rattle.row_laws.proofs.units.StageRows.{is_of_switches}
use Rattle.row_laws.specs.Rows.{IsRowIn, RowHolds, IsBestRow}
use Rattle.row_laws.specs.routers.RouterCopies.{RouterCopy, IsAtRouterPort, router_port_identity, router_roster}

module _ (net : Network) (valid : IsValid net) where
  -- a router port stands at its own name, and its router is there
  pub port_named : (q : Name) (port : RouterPort) → at net.router_ports q ≡ Some port → port.name ≡ q
  port_named q port found = among_all (λ (e : Name × RouterPort). e.1.name ≡ e.0) (q, port) net.router_ports valid.named.router_ports (at_among net.router_ports q port found)

  pub own_place : (q : Name) (port : RouterPort) → at net.router_ports q ≡ Some port → at net.router_ports port.name ≡ Some port
  own_place q port found = ap (λ n. at net.router_ports n) (port_named q port found) ∙ found

  pub in_grammar : (q : Name) (port : RouterPort) → at net.router_ports q ≡ Some port → IsRouterPort port
  in_grammar q port found =
      let r = row.RouterPort port in
      let own = among_map (λ (e : Name × RouterPort). row.RouterPort e.1) (q, port) net.router_ports (at_among net.router_ports q port found) in
      among_all IsInGrammar r (records_of net) valid.in_grammar (among_left r _ _ (among_left r _ _ (among_left r _ _ (among_left r _ _ (among_left r _ _ (among_left r _ _ (among_left r _ _ (among_left r _ _ (among_right r _ _ own)))))))))

  pub on_router : (q : Name) (port : RouterPort) → at net.router_ports q ≡ Some port → (x : Router) × (at net.routers port.router ≡ Some x)
  on_router q port found =
      let r = row.RouterPort port in
      let own = among_map (λ (e : Name × RouterPort). row.RouterPort e.1) (q, port) net.router_ports (at_among net.router_ports q port found) in
      by (at net.routers port.router) refl (among_all (λ (y : Record). AreThere net (references_of y)) r (records_of net) (whole net valid).references
      (among_left r _ _ (among_left r _ _ (among_left r _ _ (among_left r _ _ (among_left r _ _ (among_left r _ _ (among_left r _ _ (among_left r _ _ (among_right r _ _ own)))))))))).0
    where
      by : (o : Option Router) → at net.routers port.router ≡ o → is_some (option_map row.Router o) ≡ true → (x : Router) × (at net.routers port.router ≡ Some x)
      by None is h = absurd (false≢true h)
      by (Some x) is h = (x, is)

  live_is : (q : Name) (port : RouterPort) → at net.router_ports q ≡ Some port → (router_roster net).live q ≡ Some (router_port_identity port)
  live_is q port is = ap (λ (o : Option RouterPort). option_map router_port_identity o) is

  module _ (id : Option Identity) (i : RouterPort) (there : at net.router_ports i.name ≡ Some i) (is : id ≡ Some (router_port_identity i)) where
    -- the port of a name is the one that is meant
    pub port_meant : (q : Name) (port : RouterPort) → at net.router_ports q ≡ Some port → is_live_one id ((router_roster net).live port.name) ≡ true → port ≡ i
    port_meant q port found h =
        let own = own_place q port found in
        let same = identity_exact (router_port_identity i) (router_port_identity port) (sym (λ k. is_live_one (is k) (live_is port.name port own k)) ∙ h) in
        same_Some port i (sym own ∙ ap (λ (x : Identity). at net.router_ports x.name) (sym same) ∙ there)

    pub port_own : is_live_one id ((router_roster net).live i.name) ≡ true
    port_own = (λ k. is_live_one (is k) (live_is i.name i there k)) ∙ identity_own (router_port_identity i)

-- ---- rows of terms

-- all of the terms hold
abbrev pub AllSay : Network → Sight → List Expr → Type 0
AllSay net sight terms = list_all (λ x. holds_at (router_roster net) sight x) terms ≡ true

-- a row that asks for no register holds where its terms do
pub row_holds : (net : Network) (s : Stage) (sight : Sight) (regs : Regs) (priority : ℕ) (terms : List Expr) (actions : List Action) → AllSay net sight terms
    → RowHolds (router_roster net) regs sight (match_row s priority terms actions)
row_holds net s sight regs priority terms actions h = record { registers = λ x m. absurd (among_none x m); matching = says_all (router_roster net) sight terms ∙ h }

-- ---- the row that is taken

-- the row is taken at the stage, which is one of routers
pub record IsTakenThere (net : Network) (s : Stage) (c : RouterCopy) (regs : Regs) (r : LFlow) : Type 0 where
  pub valid : IsValid net
  pub of : is_of_switches s ≡ false
  pub at_port : IsAtRouterPort net s c regs
  pub best : IsBestRow net (router_roster net) (stage_table s) c.port.router regs c.sight r

module _ {net : Network} {s : Stage} {c : RouterCopy} {regs : Regs} {r : LFlow} (t : IsTakenThere net s c regs r) where
  pub the_router : (x : Router) × (at net.routers c.port.router ≡ Some x)
  the_router = on_router net t.valid c.port.name c.port t.at_port.there

  pub fields : HasFieldsInRange c.sight.packet
  fields = whole_in_range c.sight.packet t.at_port.whole

  pub its_unit : RouterRow net s c.port.router r
  its_unit = row_unit net t.valid c.port.router the_router.0 the_router.1 s t.of r t.best.is_row

  -- its terms hold
  pub taken_terms : (priority : ℕ) (terms : List Expr) (actions : List Action) → r ≡ match_row s priority terms actions → AllSay net c.sight terms
  taken_terms priority terms actions e = sym (says_all (router_roster net) c.sight terms) ∙ subst (λ (z : LFlow). holds_at (router_roster net) c.sight z.matching ≡ true) e t.best.holds_here.matching

  -- no row that holds is above it
  pub none_above : (low : ℕ) → r.priority ≡ low → (other : LFlow) → low < other.priority → IsRowIn net (stage_table s) c.port.router other → RowHolds (router_roster net) regs c.sight other → ⊥
  none_above low is other less row holds = t.best.unbeaten other row holds (inl (subst (λ n. n < other.priority) (sym is) less))

  -- none of a port of the router whose terms hold, and none of the router
  module _ (low : ℕ) (is : r.priority ≡ low) (priority : ℕ) (terms : List Expr) (actions : List Action) (less : low < priority) (say : AllSay net c.sight terms) where
    abbrev other : LFlow
    other = match_row s priority terms actions

    pub no_port_above : (q : Name) (port : RouterPort) → at net.router_ports q ≡ Some port → port.router ≡ c.port.router → Among (match_row s priority terms actions) (router_port_rows s net port) → ⊥
    no_port_above q port found on m = none_above low is other less (a_port_row net s other t.valid c.port.router q port found on m) (row_holds net s c.sight regs priority terms actions say)

    pub no_router_above : Among (match_row s priority terms actions) (router_rows s (translates net the_router.0)) → ⊥
    no_router_above m = none_above low is other less (a_router_row net s other c.port.router the_router.0 the_router.1 m) (row_holds net s c.sight regs priority terms actions say)

  -- ---- its port

  -- a port that is that of entry
  pub entry_meant : (q : Name) (port : RouterPort) → at net.router_ports q ≡ Some port → holds_at (router_roster net) c.sight (in_is port.name) ≡ true → port ≡ c.port
  entry_meant q port found h =
      port_meant net t.valid (Some c.sight.in_port) c.port t.at_port.there (ap (λ (x : Identity). Some x) t.at_port.is_port) q port found (sym (says_in (router_roster net) c.sight port.name) ∙ h)

  pub entry_own : holds_at (router_roster net) c.sight (in_is c.port.name) ≡ true
  entry_own = says_in (router_roster net) c.sight c.port.name ∙ port_own net t.valid (Some c.sight.in_port) c.port t.at_port.there (ap (λ (x : Identity). Some x) t.at_port.is_port)
