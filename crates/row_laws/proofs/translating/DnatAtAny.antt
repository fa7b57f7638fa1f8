-- r_dnat: a known connection is carried on, and a new one goes to a backend of its virtual address, or to the address that a row of NAT gives.
use Rattle.std.specs.Prelude.{◌≡◌, ◌<◌, ◌∷◌, [], ℕ, true, List, filter, Option, Some, None}
use Rattle.std.proofs.Common.{refl, sym, ap, ◌∙◌, subst, arith, inl, inr}
use Rattle.std.proofs.lemmas.Bool.{and_parts, and_from, or_cases, or_right, eq-eqb}
use Rattle.ovn_base.proofs.AmongLaws.{among_cases, map_among}
use Rattle.ovn_base.specs.declared.address.Ip4.{Ip4}
use Rattle.ovn_base.specs.declared.name.Name.{Name}
use Rattle.ovn_base.specs.lists.Among.{Among, here, there}
use Rattle.ovn_base.specs.names.ByName.{at}
use Rattle.conn_table.specs.Tuples.{tuple_of}
use Rattle.flow_table.specs.declared.flow.ZoneOf.TheVariants as zone
use Rattle.inet_packet.specs.Fields as field
use Rattle.inet_packet.specs.declared.packet.Packet.{Packet}
use Rattle.inet_packet.specs.declared.regs.Regs.{Regs}
use Rattle.nb_records.specs.Network.{Network, is_online}
use Rattle.nb_records.specs.Routers.{nats_of, translates_destinations}
use Rattle.nb_records.specs.Switches.{same_ip, is_named}
use Rattle.nb_records.specs.declared.balancer.LoadBalancer.{LoadBalancer}
use Rattle.nb_records.specs.declared.balancer.Vip.{Vip}
use Rattle.nb_records.specs.declared.router.Nat.{Nat}
use Rattle.nb_rules.specs.Holders.{repeated_vip}
use Rattle.logical_flows.specs.declared.action.Action.{Action}
use Rattle.logical_flows.specs.declared.action.Action.TheVariants as a
use Rattle.logical_flows.specs.declared.flow.LFlow.{LFlow}
use Rattle.logical_flows.specs.declared.stage.Stage.TheVariants as stage
use Rattle.stage_rows.specs.BalancerRows.{to_vip, router_vip_row, router_vips}
use Rattle.stage_rows.specs.NatRows.{nat_dnat}
use Rattle.stage_rows.specs.RouterRows.{known_dnat}
use Rattle.stage_rows.specs.Rows.{is_forward, is_reply, tracked_row, base_row, go_on}
use Rattle.stage_rows.specs.Units.{router_rows}
use Rattle.net_model.specs.Balancing.{Service}
use Rattle.net_model.specs.Dnat.{is_dnat_for, dnat_row}
use Rattle.net_model.specs.Headers.{carries_ip4, dst_of}
use Rattle.row_laws.proofs.records.NatHolders.{nat_ok, one_destination, in_nats, nats_in}
use Rattle.row_laws.proofs.records.Searches.{found_by, one_found}
use Rattle.row_laws.proofs.records.Services.{service, vip_ok, its_service, service_by}
use Rattle.row_laws.proofs.records.ValidPorts.{one_ip}
use Rattle.row_laws.proofs.records.VipHolders.{IsServingAt, own_name, once_on_router}
use Rattle.row_laws.proofs.routers.OwnIps.{for_from}
use Rattle.row_laws.proofs.routers.RouterUnits.{RouterRow, by_port, by_route, by_neighbour, by_nat, by_balancer, by_router, balancer_off, a_router_row}
use Rattle.row_laws.proofs.terms.PacketTerms.{says_ip_dst}
use Rattle.row_laws.proofs.terms.Terms.{says_all}
use Rattle.row_laws.proofs.terms.VipTerms.{GoesTo, vip_from, vip_to}
use Rattle.row_laws.proofs.translating.DnatRows.{dnat_row_of}
use Rattle.row_laws.proofs.translating.TakenByAny.{IsTakenAt, the_router, fields, its_unit, none_above, a_nat_row, a_vip_row, stated, has_state, state_holds}
use Rattle.row_laws.proofs.units.RowUnits.{in_when, when_in}
use Rattle.row_laws.proofs.units.TakenRow.{among_one}
use Rattle.row_laws.specs.Copies.{Finding, not_sought, found_new, found_forward, found_reply, found_invalid}
use Rattle.row_laws.specs.Rows.{RowHolds}
use Rattle.row_laws.specs.StageActions.{service_of}
use Rattle.row_laws.specs.routers.RouterCopies.{RouterCopy, router_roster}
use Rattle.row_laws.specs.routers.TranslatingActions.{IsAskedOf, begin_dnat, dnat_actions, router_actions_by}
use Rattle.row_laws.specs.routers.TranslatingLaws.{AnyRouterStageLaw}

module _ (net : Network) (c : RouterCopy) (regs : Regs) (r : LFlow) (t : IsTakenAt net stage.RouterDnat c regs r) where
  abbrev d : Name
  d = c.port.router

  abbrev packet : Packet
  packet = c.sight.packet

  abbrev dst : Ip4
  dst = dst_of packet

  abbrev its_vip : Option Service
  its_vip = service_of net d packet

  abbrev its_row : Option Nat
  its_row = dnat_row net d dst

  abbrev done : Finding → List Action
  done k = dnat_actions net its_vip its_row k

  abbrev Holds : LFlow → Type 0
  Holds row = RowHolds (router_roster net) regs c.sight row

  once : repeated_vip net d ≡ None
  once = once_on_router net t.valid d (the_router t).0 (the_router t).1

  -- ---- what stands above a row

  -- no virtual address is that of a new connection, where the row is below those of balancers
  no_service : (low : ℕ) → r.priority ≡ low → low < 90 → c.words.finding ≡ found_new → its_vip ≡ None
  no_service low is less new = by its_vip refl
    where
      by : (o : Option Service) → service_of net d packet ≡ o → o ≡ None
      by None e = refl
      by (Some s) e =
          let h = service_by net t.valid d once packet s e in
          let x = h.balancer in
          let v = h.answers.vip in
          let named : is_named d x.routers ≡ true = elim (or_cases (is_named d x.switches) (is_named d x.routers) h.serving.serves) [
            | inl switch ↦ absurd (balancer_off net t.valid d (the_router t).0 (the_router t).1 h.name x h.serving.there' switch)
            | inr router ↦ router
          ] in
          absurd (none_above t low is (router_vip_row (is_online net h.name) x.protocol v) less (a_vip_row net d (the_router t).0 (the_router t).1 h.name x h.serving.there' named v h.answers.among) (record {
            registers = has_state t found_new new;
            matching = says_all (router_roster net) c.sight (to_vip x.protocol v.at)
                ∙ vip_to (router_roster net) c.sight (fields t) t.at_port.whole x.protocol v.at (vip_ok net t.valid d once h.name x h.serving.there' v h.answers.among) h.tuple h.is h.answers.serves h.answers.to;
          }))

  -- a row of NAT for the destination of a new connection holds
  nat_holds : (q : Name) (x : Nat) → at net.nats q ≡ Some x → x.external_ip ≡ dst → c.words.finding ≡ found_new → Holds (dnat_row_of x)
  nat_holds q x is to new =
      let ip4 : carries_ip4 packet ≡ true = subst (λ k. IsAskedOf packet k) new t.at_port.passed in
      record {
        registers = has_state t found_new new;
        matching = says_ip_dst (router_roster net) c.sight (fields t) x.external_ip (nat_ok net t.valid q x is).external_ip
            ∙ and_from (carries_ip4 packet) _ ip4 (eq-eqb (field.ip4_dst packet.body) x.external_ip.0 (ap (λ (ip : Ip4). ip.0) (sym to)));
      }

  -- none is for that of one, where the row is below those of NAT
  no_row : (low : ℕ) → r.priority ≡ low → low < 80 → c.words.finding ≡ found_new → its_row ≡ None
  no_row low is less new = by its_row refl
    where
      by : (o : Option Nat) → dnat_row net d dst ≡ o → o ≡ None
      by None e = refl
      by (Some x) e =
          let f = found_by (is_dnat_for dst) (nats_of net d) x e in
          let parts = and_parts (translates_destinations x.kind) (same_ip x.external_ip dst) f.1 in
          let own = nats_in net t.valid d x f.0 in
          absurd (none_above t low is (dnat_row_of x) less
          (a_nat_row net stage.RouterDnat (dnat_row_of x) d own.0 x own.1 own.2 refl (when_in (dnat_row_of x) (translates_destinations x.kind) (nat_dnat x) parts.0 here))
          (nat_holds own.0 x own.1 (one_ip x.external_ip dst parts.1) new))

  -- ---- the row of a unit

  nat_row : (q : Name) (x : Nat) → at net.nats q ≡ Some x → x.router ≡ d → translates_destinations x.kind ≡ true → r ≡ dnat_row_of x → r.actions ≡ done c.words.finding
  nat_row q x is on way e =
      let own : Holds (dnat_row_of x) = subst (λ (z : LFlow). Holds z) e t.best.holds_here in
      let new : c.words.finding ≡ found_new = stated t (dnat_row_of x) own found_new here in
      let to : dst ≡ x.external_ip = for_from (router_roster net) c.sight (fields t) x.external_ip (nat_ok net t.valid q x is).external_ip own.matching in
      let test : is_dnat_for dst x ≡ true = and_from (translates_destinations x.kind) (same_ip x.external_ip dst) way (eq-eqb x.external_ip.0 dst.0 (ap (λ (ip : Ip4). ip.0) (sym to))) in
      let found : its_row ≡ Some x = one_found (is_dnat_for dst) (nats_of net d) x (in_nats net t.valid d q x is on) test (λ y m k.
      let z = nats_in net t.valid d y m in
      let parts = and_parts (translates_destinations y.kind) (same_ip y.external_ip dst) k in
      one_destination net t.valid z.0 q y x z.1 is (z.2 ∙ sym on) parts.0 way (one_ip y.external_ip dst parts.1 ∙ to)) in
      let none : its_vip ≡ None = no_service 80 (ap (λ (z : LFlow). z.priority) e) (omega arith) new in
      ap (λ (z : LFlow). z.actions) e ∙ sym (λ i. dnat_actions net (none i) (found i) (new i))

  vip_row : (name : Name) (x : LoadBalancer) → at net.load_balancers name ≡ Some x → is_named d x.routers ≡ true → (v : Vip) → Among v x.vips → r ≡ router_vip_row (is_online net name) x.protocol v → r.actions ≡ done c.words.finding
  vip_row name x is named v m e =
      let own : Holds (router_vip_row (is_online net name) x.protocol v) = subst (λ (z : LFlow). Holds z) e t.best.holds_here in
      let new : c.words.finding ≡ found_new = stated t (router_vip_row (is_online net name) x.protocol v) own found_new here in
      let goes : GoesTo x.protocol v.at (tuple_of packet) =
      vip_from (router_roster net) c.sight (fields t) t.at_port.whole x.protocol v.at (vip_ok net t.valid d once name x is v m) (sym (says_all (router_roster net) c.sight (to_vip x.protocol v.at)) ∙ own.matching) in
      let serving : IsServingAt net d name x = record { there' = is; serves = or_right (is_named d x.switches) (is_named d x.routers) named } in
      let found : its_vip ≡ Some (service x v) = its_service net t.valid d once packet name x serving v m goes.tuple goes.is goes.serves goes.to in
      ap (λ (z : LFlow). z.actions) e
      ∙ ap (λ n. a.Balance zone.Dnat v.at (filter (is_online net n) v.backends) ∷ go_on stage.RouterDnat ∷ []) (sym (own_name net t.valid name x is))
      ∙ sym (λ i. dnat_actions net (found i) its_row (new i))

  -- ---- the rows of the router

  abbrev onward : LFlow
  onward = tracked_row stage.RouterDnat 100 (is_forward ∷ []) [] known_dnat

  abbrev back : LFlow
  back = tracked_row stage.RouterDnat 100 (is_reply ∷ []) [] known_dnat

  none_known : (row : LFlow) → Among row (router_rows stage.RouterDnat true) → row.priority ≡ 100 → Holds row → r.priority ≡ 0 → ⊥
  none_known row m high holds is =
      none_above t 0 is row (omega (arith, high)) (a_router_row net stage.RouterDnat row d (the_router t).0 (the_router t).1 m) holds

  passes : r.priority ≡ 0 → (k : Finding) → c.words.finding ≡ k → done k ≡ go_on stage.RouterDnat ∷ []
  passes is not_sought e = refl
  passes is found_invalid e = refl
  passes is found_forward e = absurd (none_known onward here refl (state_holds t found_forward e 100 known_dnat) is)
  passes is found_reply e = absurd (none_known back (there here) refl (state_holds t found_reply e 100 known_dnat) is)
  passes is found_new e = λ i. begin_dnat net (no_service 0 is (omega arith) e i) (no_row 0 is (omega arith) e i)

  own_row : Among r (router_rows stage.RouterDnat true) → r.actions ≡ done c.words.finding
  own_row m = elim (among_cases r onward (back ∷ base_row stage.RouterDnat ∷ []) m) [
    | inl e ↦
        let own : Holds onward = subst (λ (z : LFlow). Holds z) e t.best.holds_here in
        ap (λ (z : LFlow). z.actions) e ∙ ap done (sym (stated t onward own found_forward here))
    | inr n ↦ elim (among_cases r back (base_row stage.RouterDnat ∷ []) n) [
      | inl e ↦
          let own : Holds back = subst (λ (z : LFlow). Holds z) e t.best.holds_here in
          ap (λ (z : LFlow). z.actions) e ∙ ap done (sym (stated t back own found_reply here))
      | inr o ↦
          let e = among_one r (base_row stage.RouterDnat) o in
          ap (λ (z : LFlow). z.actions) e ∙ sym (passes (ap (λ (z : LFlow). z.priority) e) c.words.finding refl)
    ]
  ]

  decided : RouterRow net stage.RouterDnat d r → r.actions ≡ router_actions_by stage.RouterDnat net c
  decided (by_port q port is on m) = elim m [ ]
  decided (by_route q x is on m) = elim m [ ]
  decided (by_neighbour q port is on ip mac known m) = elim m [ ]
  decided (by_nat q x is on m) =
      let k = in_when r (translates_destinations x.kind) (nat_dnat x) m in
      nat_row q x is on k.0 (among_one r (dnat_row_of x) k.1)
  decided (by_balancer name x is m) =
      let k = in_when r (is_named d x.routers) (router_vips (is_online net name) x) m in
      let v = map_among (router_vip_row (is_online net name) x.protocol) r x.vips k.1 in
      vip_row name x is k.0 v.0 v.1 v.2
  decided (by_router x is m) = own_row m

pub any_dnat_law : AnyRouterStageLaw stage.RouterDnat
any_dnat_law net valid c regs h r best = let t : IsTakenAt net stage.RouterDnat c regs r = record { valid = valid; of = refl; at_port = h; best = best } in decided net c regs r t (its_unit t)
