-- r_snat: a known connection is carried on, and a new one gets the address of the row of NAT with the longest prefix that holds its source.
use Rattle.std.specs.Prelude.{◌≡◌, ◌<◌, ◌+◌, ◌∷◌, [], nat_lt, true, false, List, filter, Option, Some, None}
use Rattle.std.proofs.Common.{refl, sym, ap, ◌∙◌, subst, arith, inl, inr}
use Rattle.std.proofs.lemmas.Bool.{and_parts, and_from}
use Rattle.ovn_base.proofs.AmongLaws.{among_cases, among_filter, filter_among}
use Rattle.ovn_base.specs.declared.address.Ip4.{Ip4}
use Rattle.ovn_base.specs.declared.name.Name.{Name}
use Rattle.ovn_base.specs.lists.Among.{Among, here, there}
use Rattle.ovn_base.specs.names.ByName.{at}
use Rattle.inet_packet.specs.declared.packet.Packet.{Packet}
use Rattle.inet_packet.specs.declared.regs.Reg.TheVariants as reg
use Rattle.inet_packet.specs.declared.regs.Regs.{Regs}
use Rattle.nb_records.specs.Network.{Network}
use Rattle.nb_records.specs.Routers.{contains, nats_of, translates_sources}
use Rattle.nb_records.specs.Ways.{best_by}
use Rattle.nb_records.specs.declared.router.Nat.{Nat}
use Rattle.logical_flows.specs.Stages.{stage_table}
use Rattle.logical_flows.specs.declared.action.Action.{Action}
use Rattle.logical_flows.specs.declared.flow.LFlow.{LFlow}
use Rattle.logical_flows.specs.declared.flow.RegIs.{RegIs}
use Rattle.logical_flows.specs.declared.stage.Stage.TheVariants as stage
use Rattle.stage_rows.specs.NatRows.{nat_snat}
use Rattle.stage_rows.specs.Rows.{is_new, is_forward, is_invalid, reg_is, tracked_row, base_row, go_on}
use Rattle.stage_rows.specs.Units.{router_rows}
use Rattle.net_model.specs.Headers.{carries_ip4, src_of}
use Rattle.net_model.specs.Snat.{is_snat_for, is_narrower, snat_row}
use Rattle.row_laws.proofs.records.NatHolders.{nat_ok, one_source, in_nats, nats_in}
use Rattle.row_laws.proofs.records.OnePrefix.{one_prefix}
use Rattle.row_laws.proofs.routers.BestWays.{less_other, less_itself, less_along}
use Rattle.row_laws.proofs.routers.RouteAtRouter.{tied}
use Rattle.row_laws.proofs.routers.RouterUnits.{RouterRow, by_port, by_route, by_neighbour, by_nat, by_balancer, by_router, a_router_row}
use Rattle.row_laws.proofs.terms.PacketTerms.{says_src_in}
use Rattle.row_laws.proofs.translating.SnatRows.{snat_by, begins_by, refuses_by}
use Rattle.row_laws.proofs.translating.TakenByAny.{IsTakenAt, the_router, fields, its_unit, none_above, a_nat_row, stated, has_state, state_holds}
use Rattle.row_laws.proofs.units.BestOf.{IsOrder, best_none, best_is}
use Rattle.row_laws.proofs.units.RowUnits.{in_when, when_in}
use Rattle.row_laws.proofs.units.TakenRow.{among_one}
use Rattle.row_laws.specs.Copies.{Finding, not_sought, found_new, found_forward, found_reply, found_invalid, finding_code}
use Rattle.row_laws.specs.Rows.{IsRowIn, RowHolds}
use Rattle.row_laws.specs.routers.RouterCopies.{RouterCopy, router_roster}
use Rattle.row_laws.specs.routers.TranslatingActions.{IsAskedOf, begin_snat, refuse_snat, carry_actions, snat_actions, router_actions_by}
use Rattle.row_laws.specs.routers.TranslatingLaws.{AnyRouterStageLaw}

-- ---- which row is narrower

narrower_order : IsOrder is_narrower
narrower_order = record {
  other = λ x y h. less_other x.logical_ip.len y.logical_ip.len h;
  itself = λ x. less_itself x.logical_ip.len;
  along = λ x y z h j. less_along x.logical_ip.len y.logical_ip.len z.logical_ip.len h j;
}

module _ (net : Network) (c : RouterCopy) (regs : Regs) (r : LFlow) (t : IsTakenAt net stage.RouterSnat c regs r) where
  abbrev d : Name
  d = c.port.router

  abbrev packet : Packet
  packet = c.sight.packet

  abbrev src : Ip4
  src = src_of packet

  abbrev rows : List Nat
  rows = filter (is_snat_for src) (nats_of net d)

  abbrev its_row : Option Nat
  its_row = snat_row net d src

  abbrev done : Finding → List Action
  done k = snat_actions its_row k

  abbrev Holds : LFlow → Type 0
  Holds row = RowHolds (router_roster net) regs c.sight row

  -- ---- rows of NAT for the source

  record IsFor (x : Nat) : Type 0 where
    name : Name
    there' : at net.nats name ≡ Some x
    on : x.router ≡ d
    way : translates_sources x.kind ≡ true
    from : contains x.logical_ip src ≡ true

  in_rows : (x : Nat) → IsFor x → Among x rows
  in_rows x h =
      among_filter (is_snat_for src) x (nats_of net d) (in_nats net t.valid d h.name x h.there' h.on) (and_from (translates_sources x.kind) (contains x.logical_ip src) h.way h.from)

  of_rows : (x : Nat) → Among x rows → IsFor x
  of_rows x m =
      let f = filter_among (is_snat_for src) x (nats_of net d) m in
      let own = nats_in net t.valid d x f.0 in
      let parts = and_parts (translates_sources x.kind) (contains x.logical_ip src) f.1 in
      record { name = own.0; there' = own.1; on = own.2; way = parts.0; from = parts.1 }

  -- its row of a state holds where the list said so
  nat_holds : (x : Nat) → IsFor x → (k : Finding) → c.words.finding ≡ k → carries_ip4 packet ≡ true → (actions : List Action) → Holds (snat_by x (reg_is reg.State (finding_code k)) actions)
  nat_holds x h k e ip4 actions = record {
    registers = has_state t k e;
    matching = says_src_in (router_roster net) c.sight (fields t) x.logical_ip (nat_ok net t.valid h.name x h.there').logical_ip ∙ and_from (carries_ip4 packet) (contains x.logical_ip src) ip4 h.from;
  }

  begin_in : (x : Nat) → IsFor x → IsRowIn net (stage_table stage.RouterSnat) d (snat_by x is_new (begins_by x))
  begin_in x h = a_nat_row net stage.RouterSnat (snat_by x is_new (begins_by x)) d h.name x h.there' h.on refl (when_in (snat_by x is_new (begins_by x)) (translates_sources x.kind) (nat_snat x) h.way here)

  refuse_in : (x : Nat) → IsFor x → IsRowIn net (stage_table stage.RouterSnat) d (snat_by x is_invalid refuses_by)
  refuse_in x h = a_nat_row net stage.RouterSnat (snat_by x is_invalid refuses_by) d h.name x h.there' h.on refl (when_in (snat_by x is_invalid refuses_by) (translates_sources x.kind) (nat_snat x) h.way (there here))

  -- where a new packet, or one that can begin no connection, has a row for it, that is not above the one that is taken
  not_above : (x : Nat) → IsFor x → c.words.finding ≡ found_new → r.priority < 100 + x.logical_ip.len → ⊥
  not_above x h new less = t.best.unbeaten (snat_by x is_new (begins_by x)) (begin_in x h) (nat_holds x h found_new new (subst (λ k. IsAskedOf packet k) new t.at_port.passed) (begins_by x)) (inl less)

  not_over : (x : Nat) → IsFor x → c.words.finding ≡ found_invalid → r.priority < 100 + x.logical_ip.len → ⊥
  not_over x h bad less = t.best.unbeaten (snat_by x is_invalid refuses_by) (refuse_in x h) (nat_holds x h found_invalid bad (subst (λ k. IsAskedOf packet k) bad t.at_port.passed) refuses_by) (inl less)

  -- ---- the row that is taken

  -- it is that of the row with the longest prefix, where none is above it
  found_is : (x : Nat) → IsFor x → r.priority ≡ 100 + x.logical_ip.len → ((m : Nat) → IsFor m → r.priority < 100 + m.logical_ip.len → ⊥) → its_row ≡ Some x
  found_is x h is none = by (best_by is_narrower rows) refl
    where
      by : (o : Option Nat) → best_by is_narrower rows ≡ o → o ≡ Some x
      by None e = absurd (best_none is_narrower rows e x (in_rows x h))
      by (Some m) e =
          let b = best_is is_narrower narrower_order rows m e in
          let its = of_rows m b.among in
          let low : nat_lt m.logical_ip.len x.logical_ip.len ≡ false = b.unbeaten x (in_rows x h) in
          let len : x.logical_ip.len ≡ m.logical_ip.len = tied x.logical_ip.len m.logical_ip.len low (λ less. none m its (omega (arith, less, is))) in
          ap (λ y. Some y) (one_source net t.valid its.name h.name m x its.there' h.there' (its.on ∙ sym h.on) its.way h.way
          (one_prefix m.logical_ip x.logical_ip src (sym len) its.from h.from) (one_prefix x.logical_ip m.logical_ip src len h.from its.from))

  -- and where the base row is, there is none
  none_is : r.priority ≡ 0 → ((m : Nat) → IsFor m → r.priority < 100 + m.logical_ip.len → ⊥) → its_row ≡ None
  none_is is none = by (best_by is_narrower rows) refl
    where
      by : (o : Option Nat) → best_by is_narrower rows ≡ o → o ≡ None
      by None e = refl
      by (Some m) e = absurd (none m (of_rows m (best_is is_narrower narrower_order rows m e).among) (omega (arith, is)))

  for_row : (q : Name) (x : Nat) → at net.nats q ≡ Some x → x.router ≡ d → translates_sources x.kind ≡ true → (state : RegIs) (actions : List Action) → Holds (snat_by x state actions) → IsFor x
  for_row q x is on way state actions own = record {
    name = q;
    there' = is;
    on = on;
    way = way;
    from = (and_parts (carries_ip4 packet) (contains x.logical_ip src) (sym (says_src_in (router_roster net) c.sight (fields t) x.logical_ip (nat_ok net t.valid q x is).logical_ip) ∙ own.matching)).1;
  }

  nat_row : (q : Name) (x : Nat) → at net.nats q ≡ Some x → x.router ≡ d → translates_sources x.kind ≡ true → Among r (nat_snat x) → r.actions ≡ done c.words.finding
  nat_row q x is on way m = elim (among_cases r (snat_by x is_new (begins_by x)) (snat_by x is_invalid refuses_by ∷ []) m) [
    | inl e ↦
        let own : Holds (snat_by x is_new (begins_by x)) = subst (λ (z : LFlow). Holds z) e t.best.holds_here in
        let new : c.words.finding ≡ found_new = stated t (snat_by x is_new (begins_by x)) own found_new here in
        let found = found_is x (for_row q x is on way is_new (begins_by x) own) (ap (λ (z : LFlow). z.priority) e) (λ m h. not_above m h new) in
        ap (λ (z : LFlow). z.actions) e ∙ sym (λ i. snat_actions (found i) (new i))
    | inr n ↦
        let e : r ≡ snat_by x is_invalid refuses_by = among_one r (snat_by x is_invalid refuses_by) n in
        let own : Holds (snat_by x is_invalid refuses_by) = subst (λ (z : LFlow). Holds z) e t.best.holds_here in
        let bad : c.words.finding ≡ found_invalid = stated t (snat_by x is_invalid refuses_by) own found_invalid here in
        let found = found_is x (for_row q x is on way is_invalid refuses_by own) (ap (λ (z : LFlow). z.priority) e) (λ m h. not_over m h bad) in
        ap (λ (z : LFlow). z.actions) e ∙ sym (λ i. snat_actions (found i) (bad i))
  ]

  -- ---- the rows of the router

  abbrev onward : LFlow
  onward = tracked_row stage.RouterSnat 200 (is_forward ∷ []) [] (carry_actions stage.RouterSnat)

  passes : r.priority ≡ 0 → (k : Finding) → c.words.finding ≡ k → done k ≡ go_on stage.RouterSnat ∷ []
  passes is not_sought e = refl
  passes is found_reply e = refl
  passes is found_forward e =
      let less : 0 < 200 = omega arith in
      absurd (none_above t 0 is onward less (a_router_row net stage.RouterSnat onward d (the_router t).0 (the_router t).1 here) (state_holds t found_forward e 200 (carry_actions stage.RouterSnat)))
  passes is found_new e = ap begin_snat (none_is is (λ m h. not_above m h e))
  passes is found_invalid e = ap refuse_snat (none_is is (λ m h. not_over m h e))

  own_row : Among r (router_rows stage.RouterSnat true) → r.actions ≡ done c.words.finding
  own_row m = elim (among_cases r onward (base_row stage.RouterSnat ∷ []) m) [
    | inl e ↦
        let own : Holds onward = subst (λ (z : LFlow). Holds z) e t.best.holds_here in
        ap (λ (z : LFlow). z.actions) e ∙ ap done (sym (stated t onward own found_forward here))
    | inr n ↦
        let e = among_one r (base_row stage.RouterSnat) n in
        ap (λ (z : LFlow). z.actions) e ∙ sym (passes (ap (λ (z : LFlow). z.priority) e) c.words.finding refl)
  ]

  decided : RouterRow net stage.RouterSnat d r → r.actions ≡ router_actions_by stage.RouterSnat net c
  decided (by_port q port is on m) = elim m [ ]
  decided (by_route q x is on m) = elim m [ ]
  decided (by_neighbour q port is on ip mac known m) = elim m [ ]
  decided (by_nat q x is on m) = let k = in_when r (translates_sources x.kind) (nat_snat x) m in nat_row q x is on k.0 k.1
  decided (by_balancer name x is m) = elim m [ ]
  decided (by_router x is m) = own_row m

pub any_snat_law : AnyRouterStageLaw stage.RouterSnat
any_snat_law net valid c regs h r best = let t : IsTakenAt net stage.RouterSnat c regs r = record { valid = valid; of = refl; at_port = h; best = best } in decided net c regs r t (its_unit t)
