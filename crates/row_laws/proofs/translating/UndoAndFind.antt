-- r_undo and r_find: a router that translates looks an IPv4 packet up in its lists, but for its own answer on its way out.
use Rattle.std.specs.Prelude.{◌≡◌, ◌<◌, ◌++◌, ◌&&◌, ◌∷◌, [], Bool, true, false, not, List, Some}
use Rattle.std.proofs.Common.{refl, sym, ap, ◌∙◌, subst, arith, inl, inr}
use Rattle.std.proofs.lemmas.Bool.{false≢true, false_from_ne_true, and_parts, and_from}
use Rattle.ovn_base.proofs.AmongLaws.{among_cases, among_none}
use Rattle.ovn_base.specs.lists.Among.{Among, here}
use Rattle.ovn_base.specs.names.ByName.{at}
use Rattle.flow_table.specs.declared.flow.ZoneOf.TheVariants as zone
use Rattle.inet_packet.specs.declared.regs.Reg.TheVariants as reg
use Rattle.inet_packet.specs.declared.regs.Regs.{Regs}
use Rattle.match_language.specs.declared.expr.Expr.TheVariants as e
use Rattle.match_language.specs.declared.field.Predicate.TheVariants as p
use Rattle.nb_records.specs.Network.{Network}
use Rattle.nb_records.specs.Routers.{translates}
use Rattle.nb_records.specs.declared.router.Router.{Router}
use Rattle.logical_flows.specs.declared.action.Action.TheVariants as a
use Rattle.logical_flows.specs.declared.flow.LFlow.{LFlow}
use Rattle.logical_flows.specs.declared.flow.RegIs.{RegIs}
use Rattle.logical_flows.specs.declared.stage.Stage.TheVariants as stage
use Rattle.stage_rows.specs.Rows.{reg_is, tracked_row, base_row, go_on, when}
use Rattle.flow_lowering.specs.Registers.{reg_number}
use Rattle.net_model.specs.Forwarding.{translates_if, is_translating}
use Rattle.net_model.specs.Headers.{carries_ip4}
use Rattle.row_laws.proofs.routers.RouterUnits.{RouterRow, by_port, by_route, by_neighbour, by_nat, by_balancer, by_router, a_router_row}
use Rattle.row_laws.proofs.terms.Terms.{says_ip4}
use Rattle.row_laws.proofs.translating.TakenByAny.{IsTakenAt, its_unit, fields, none_above}
use Rattle.row_laws.proofs.units.TakenRow.{among_one}
use Rattle.row_laws.specs.Copies.{flag_number}
use Rattle.row_laws.specs.Rows.{RowHolds}
use Rattle.row_laws.specs.routers.RouterCopies.{RouterCopy, router_roster}
use Rattle.row_laws.specs.routers.TranslatingActions.{undo_actions, find_actions, router_actions_by}
use Rattle.row_laws.specs.routers.TranslatingLaws.{AnyRouterStageLaw}

-- ---- a row that stands on routers that translate, and one below it

abbrev both : LFlow → LFlow → Bool → List LFlow
both first last b = when b (first ∷ []) ++ last ∷ []

data Which (first last r : LFlow) (b : Bool) : Type 0 where
  is_first : b ≡ true → r ≡ first → Which first last r b
  is_last : r ≡ last → Which first last r b

which : (first last r : LFlow) (b : Bool) → Among r (both first last b) → Which first last r b
which first last r true m = elim (among_cases r first (last ∷ []) m) [ inl e ↦ is_first refl e | inr n ↦ is_last (among_one r last n) ]
which first last r false m = is_last (among_one r last m)

first_among : (first last : LFlow) (b : Bool) → b ≡ true → Among first (both first last b)
first_among first last true h = here
first_among first last false h = absurd (false≢true h)

-- whether the router of a port translates
translates_is : (net : Network) (c : RouterCopy) (x : Router) → at net.routers c.port.router ≡ Some x → is_translating net c.port ≡ translates net x
translates_is net c x is = ap (translates_if net) is

-- ---- r_undo

module _ (net : Network) (c : RouterCopy) (regs : Regs) (r : LFlow) (t : IsTakenAt net stage.RouterUndo c regs r) where
  abbrev undoes : LFlow
  undoes = tracked_row stage.RouterUndo 100 [] (e.Is p.Ip4 ∷ []) (a.Undo ∷ a.Find zone.Dnat ∷ go_on stage.RouterUndo ∷ [])

  -- where it is to be undone, the row that does so holds
  undo_holds : carries_ip4 c.sight.packet ≡ true → RowHolds (router_roster net) regs c.sight undoes
  undo_holds ip4 = record { registers = λ x m. absurd (among_none x m); matching = says_ip4 (router_roster net) c.sight (fields t) ∙ ip4 }

  low : 0 < 100
  low = omega arith

  abbrev undone_here : Bool
  undone_here = is_translating net c.port && carries_ip4 c.sight.packet

  by_which : (x : Router) → at net.routers c.port.router ≡ Some x → Which undoes (base_row stage.RouterUndo) r (translates net x) → r.actions ≡ undo_actions undone_here
  by_which x is (is_first b e) =
      let ip4 : carries_ip4 c.sight.packet ≡ true = sym (says_ip4 (router_roster net) c.sight (fields t)) ∙ (subst (λ (z : LFlow). RowHolds (router_roster net) regs c.sight z) e t.best.holds_here).matching in
      ap (λ (z : LFlow). z.actions) e ∙ ap undo_actions (sym (and_from (is_translating net c.port) (carries_ip4 c.sight.packet) (translates_is net c x is ∙ b) ip4))
  by_which x is (is_last e) =
      ap (λ (z : LFlow). z.actions) e
      ∙ ap undo_actions (sym (false_from_ne_true undone_here (λ h.
      let parts = and_parts (is_translating net c.port) (carries_ip4 c.sight.packet) h in
      none_above t 0 (ap (λ (z : LFlow). z.priority) e) undoes low
      (a_router_row net stage.RouterUndo undoes c.port.router x is (first_among undoes (base_row stage.RouterUndo) (translates net x) (sym (translates_is net c x is) ∙ parts.0))) (undo_holds parts.1))))

  undone : RouterRow net stage.RouterUndo c.port.router r → r.actions ≡ router_actions_by stage.RouterUndo net c
  undone (by_port q port is on m) = elim m [ ]
  undone (by_route q x is on m) = elim m [ ]
  undone (by_neighbour q port is on ip mac known m) = elim m [ ]
  undone (by_nat q x is on m) = elim m [ ]
  undone (by_balancer b x is m) = elim m [ ]
  undone (by_router x is m) = by_which x is (which undoes (base_row stage.RouterUndo) r (translates net x) m)

pub any_undo_law : AnyRouterStageLaw stage.RouterUndo
any_undo_law net valid c regs h r best = let t : IsTakenAt net stage.RouterUndo c regs r = record { valid = valid; of = refl; at_port = h; best = best } in undone net c regs r t (its_unit t)

-- ---- r_find

not_own : (b : Bool) → flag_number b ≡ 0 → not b ≡ true
not_own true h = absurd (omega (arith, h))
not_own false h = refl

own_number : (b : Bool) → not b ≡ true → flag_number b ≡ 0
own_number true h = absurd (false≢true h)
own_number false h = refl

module _ (net : Network) (c : RouterCopy) (regs : Regs) (r : LFlow) (t : IsTakenAt net stage.RouterFind c regs r) where
  abbrev finds : LFlow
  finds = tracked_row stage.RouterFind 100 (reg_is reg.Own 0 ∷ []) (e.Is p.Ip4 ∷ []) (a.Find zone.Snat ∷ go_on stage.RouterFind ∷ [])

  find_holds : not c.words.own ≡ true → carries_ip4 c.sight.packet ≡ true → RowHolds (router_roster net) regs c.sight finds
  find_holds own ip4 = record {
    registers = λ x m. subst (λ (y : RegIs). reg_number y.reg regs ≡ y.value) (sym (among_one x (reg_is reg.Own 0) m)) (t.at_port.words.own ∙ own_number c.words.own own);
    matching = says_ip4 (router_roster net) c.sight (fields t) ∙ ip4;
  }

  below : 0 < 100
  below = omega arith

  abbrev found_here : Bool
  found_here = not c.words.own && (is_translating net c.port && carries_ip4 c.sight.packet)

  by_which' : (x : Router) → at net.routers c.port.router ≡ Some x → Which finds (base_row stage.RouterFind) r (translates net x) → r.actions ≡ find_actions found_here
  by_which' x is (is_first b e) =
      let own : RowHolds (router_roster net) regs c.sight finds = subst (λ (z : LFlow). RowHolds (router_roster net) regs c.sight z) e t.best.holds_here in
      let ip4 : carries_ip4 c.sight.packet ≡ true = sym (says_ip4 (router_roster net) c.sight (fields t)) ∙ own.matching in
      let other : not c.words.own ≡ true = not_own c.words.own (sym t.at_port.words.own ∙ own.registers (reg_is reg.Own 0) here) in
      ap (λ (z : LFlow). z.actions) e
      ∙ ap find_actions (sym (and_from (not c.words.own) _ other (and_from (is_translating net c.port) (carries_ip4 c.sight.packet) (translates_is net c x is ∙ b) ip4)))
  by_which' x is (is_last e) =
      ap (λ (z : LFlow). z.actions) e
      ∙ ap find_actions (sym (false_from_ne_true found_here (λ h.
      let one = and_parts (not c.words.own) (is_translating net c.port && carries_ip4 c.sight.packet) h in
      let two = and_parts (is_translating net c.port) (carries_ip4 c.sight.packet) one.1 in
      none_above t 0 (ap (λ (z : LFlow). z.priority) e) finds below
      (a_router_row net stage.RouterFind finds c.port.router x is (first_among finds (base_row stage.RouterFind) (translates net x) (sym (translates_is net c x is) ∙ two.0))) (find_holds one.0 two.1))))

  sought : RouterRow net stage.RouterFind c.port.router r → r.actions ≡ router_actions_by stage.RouterFind net c
  sought (by_port q port is on m) = elim m [ ]
  sought (by_route q x is on m) = elim m [ ]
  sought (by_neighbour q port is on ip mac known m) = elim m [ ]
  sought (by_nat q x is on m) = elim m [ ]
  sought (by_balancer b x is m) = elim m [ ]
  sought (by_router x is m) = by_which' x is (which finds (base_row stage.RouterFind) r (translates net x) m)

pub any_find_law : AnyRouterStageLaw stage.RouterFind
any_find_law net valid c regs h r best = let t : IsTakenAt net stage.RouterFind c regs r = record { valid = valid; of = refl; at_port = h; best = best } in sought net c regs r t (its_unit t)
