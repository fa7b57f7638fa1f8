-- Two rows of the table of a router which may both be taken: of which units they are, and that they have one priority and one rank.
use Rattle.std.specs.Prelude.{◌≡◌, true, List, [], Option, Some, None, option_map}
use Rattle.std.proofs.Common.{sym, ap, ◌∙◌}
use Rattle.std.proofs.lemmas.Bool.{false≢true}
use Rattle.ovn_base.specs.declared.address.Ip4.{Ip4}
use Rattle.ovn_base.specs.declared.address.Mac.{Mac}
use Rattle.ovn_base.specs.declared.name.Name.{Name}
use Rattle.ovn_base.specs.lists.Among.{Among}
use Rattle.ovn_base.specs.names.ByName.{at}
use Rattle.inet_packet.specs.declared.regs.Regs.{Regs}
use Rattle.match_cubes.specs.Suited.{HasFieldsInRange}
use Rattle.match_language.specs.declared.expr.Expr.{Expr}
use Rattle.nb_records.specs.Neighbours.{neighbour_of}
use Rattle.nb_records.specs.Network.{Network}
use Rattle.nb_records.specs.Routers.{translates}
use Rattle.nb_records.specs.declared.router.Route.{Route}
use Rattle.nb_records.specs.declared.router.Router.{Router}
use Rattle.nb_records.specs.declared.router.RouterPort.{RouterPort}
use Rattle.nb_rules.specs.Valid.{IsValid}
use Rattle.logical_flows.specs.Stages.{stage_table}
use Rattle.logical_flows.specs.declared.action.Action.{Action}
use Rattle.logical_flows.specs.declared.flow.LFlow.{LFlow}
use Rattle.logical_flows.specs.declared.stage.Stage.{Stage}
use Rattle.stage_rows.specs.Rows.{match_row}
use Rattle.stage_rows.specs.Units.{router_port_rows, route_rows, neighbour_rows, router_rows}
use Rattle.tunnel_keys.specs.Same.{identity_exact}
use Rattle.tunnel_keys.specs.declared.owner.Identity.{Identity}
use Rattle.net_model.specs.Sights.{Sight, is_live_one, holds_at}
use Rattle.row_laws.proofs.agreeing.TwoRows.{one_priority, one_rank}
use Rattle.row_laws.proofs.routers.TakenAtRouter.{AllSay, port_meant}
use Rattle.row_laws.proofs.terms.Terms.{says_all}
use Rattle.row_laws.specs.Rows.{RowHolds, IsBestRow}
use Rattle.row_laws.specs.routers.RouterCopies.{router_port_identity, router_roster}

-- the rows may both be taken for a packet on the router
pub record AreTakenThere (net : Network) (s : Stage) (d : Name) (regs : Regs) (sight : Sight) (r q : LFlow) : Type 0 where
  pub valid : IsValid net
  pub router : Router
  pub there' : at net.routers d ≡ Some router
  pub fields : HasFieldsInRange sight.packet
  pub first : IsBestRow net (router_roster net) (stage_table s) d regs sight r
  pub second : IsBestRow net (router_roster net) (stage_table s) d regs sight q

module _ {net : Network} {s : Stage} {d : Name} {regs : Regs} {sight : Sight} {r q : LFlow} (t : AreTakenThere net s d regs sight r q) where
  pub same_priority : r.priority ≡ q.priority
  same_priority = one_priority t.first t.second

  pub same_rank : r.rank ≡ q.rank
  same_rank = one_rank t.first t.second

-- ---- units

-- the units of a router, but for those of NAT and of balancers, of which a row of the stage may be
pub data OwnRow (net : Network) (s : Stage) (d : Name) (r : LFlow) : Type 0 where
  of_port : (q : Name) (port : RouterPort) → at net.router_ports q ≡ Some port → port.router ≡ d → Among r (router_port_rows s net port) → OwnRow net s d r
  of_route : (q : Name) (x : Route) → at net.routes q ≡ Some x → x.router ≡ d → Among r (route_rows s net x) → OwnRow net s d r
  of_neighbour : (q : Name) (port : RouterPort) → at net.router_ports q ≡ Some port → port.router ≡ d → (ip : Ip4) (mac : Mac) → neighbour_of net port ip ≡ Some mac → Among r (neighbour_rows s q ip mac) → OwnRow net s d r
  of_router : (x : Router) → at net.routers d ≡ Some x → Among r (router_rows s (translates net x)) → OwnRow net s d r

-- ---- terms and ports

-- the terms of a row that holds and asks for no register
pub terms_hold : (net : Network) (s : Stage) (sight : Sight) (regs : Regs) (r : LFlow) → RowHolds (router_roster net) regs sight r → (priority : _) (terms : List Expr) (actions : List Action) → r ≡ match_row s priority terms actions
    → AllSay net sight terms
terms_hold net s sight regs r holds priority terms actions e = sym (says_all (router_roster net) sight terms) ∙ ap (λ (z : LFlow). holds_at (router_roster net) sight z.matching) (sym e) ∙ holds.matching

-- an identity is that of one port
pub one_port : (net : Network) → IsValid net → (id : Option Identity) (x y : RouterPort) → at net.router_ports x.name ≡ Some x → at net.router_ports y.name ≡ Some y
    → is_live_one id ((router_roster net).live x.name) ≡ true → is_live_one id ((router_roster net).live y.name) ≡ true → x ≡ y
one_port net valid None x y is also h k = absurd (false≢true h)
one_port net valid (Some i) x y is also h k =
    let own : i ≡ router_port_identity y = identity_exact i (router_port_identity y) (sym (λ j. is_live_one (Some i) (live_is j)) ∙ k) in
    port_meant net valid (Some i) y also (λ j. Some (own j)) x.name x is h
  where
    live_is : (router_roster net).live y.name ≡ Some (router_port_identity y)
    live_is = ap (λ (o : Option RouterPort). option_map router_port_identity o) also
