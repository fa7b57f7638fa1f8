-- s_state_in decides by the verdict and the connection, and by the virtual address to which a connection begins.
use Rattle.std.specs.Prelude.{◌≡◌, ◌<◌, ◌∷◌, [], Bool, true, false, List, filter, Option, Some, None, nat_eq, nat_lt}
use Rattle.std.proofs.Common.{refl, sym, ap, ◌∙◌, subst, arith, inl, inr}
use Rattle.std.proofs.lemmas.Bool.{cases_Bool, and_parts, and_from, or_left, or_cases, eqb-true, eq-eqb, ltb-true}
use Rattle.ovn_base.proofs.AmongLaws.{among_cases, among_none, among_map, map_among, any_among}
use Rattle.ovn_base.specs.declared.name.Name.{Name}
use Rattle.ovn_base.specs.lists.Among.{Among, here, there}
use Rattle.conn_table.specs.Tuples.{tuple_of}
use Rattle.flow_table.specs.declared.flow.ZoneOf.TheVariants as zone
use Rattle.inet_packet.specs.declared.packet.Packet.{Packet}
use Rattle.inet_packet.specs.declared.regs.Reg.TheVariants as reg
use Rattle.inet_packet.specs.declared.regs.Regs.{Regs}
use Rattle.nb_records.specs.Network.{Network, is_online}
use Rattle.nb_records.specs.Switches.{is_named, is_stateful}
use Rattle.nb_records.specs.declared.balancer.LoadBalancer.{LoadBalancer}
use Rattle.nb_records.specs.declared.balancer.Vip.{Vip}
use Rattle.nb_rules.specs.Holders.{repeated_vip}
use Rattle.logical_flows.specs.declared.action.Action.{Action}
use Rattle.logical_flows.specs.declared.action.Action.TheVariants as a
use Rattle.logical_flows.specs.declared.flow.LFlow.{LFlow}
use Rattle.logical_flows.specs.declared.flow.RegIs.{RegIs}
use Rattle.logical_flows.specs.declared.stage.Pipeline.TheVariants.{Ingress}
use Rattle.logical_flows.specs.declared.stage.Stage.TheVariants as stage
use Rattle.stage_rows.specs.BalancerRows.{to_vip, switch_vip_row, switch_vips}
use Rattle.stage_rows.specs.Rows.{reg_is, is_new, go_on}
use Rattle.stage_rows.specs.StateRows.{state_rows}
use Rattle.flow_lowering.specs.Registers.{reg_number}
use Rattle.net_model.specs.Balancing.{Service}
use Rattle.net_model.specs.Sights.{roster_of}
use Rattle.row_laws.proofs.units.RowUnits.{SwitchRow, by_port, by_rule, by_balancer, by_switch, in_when, when_in, balancer_off, a_balancer_row}
use Rattle.row_laws.proofs.switch.StateStages.{fixed_holds, fixed_row, none_above, taken_words, fixed_does}
use Rattle.row_laws.proofs.switch.StateTable.{is_above, words_hold, begins_now, may_begin, best_is_low, some_above, begun, not_begun}
use Rattle.row_laws.proofs.units.TakenRow.{IsTaken, its_unit, the_switch, fields}
use Rattle.row_laws.proofs.terms.Terms.{says_all}
use Rattle.row_laws.proofs.records.Services.{vip_ok, its_service, service_by}
use Rattle.row_laws.proofs.records.VipHolders.{IsServingAt, own_name, none_repeated}
use Rattle.row_laws.proofs.terms.VipTerms.{GoesTo, vip_from, vip_to}
use Rattle.row_laws.specs.Copies.{Copy, flag_number, finding_code}
use Rattle.row_laws.specs.Rows.{RowHolds}
use Rattle.row_laws.specs.StageActions.{state_actions, begin_with, begin_in, service_of, actions_at}
use Rattle.row_laws.specs.StageLaws.{StageLaw}

module _ (net : Network) (c : Copy) (regs : Regs) (r : LFlow) (t : IsTaken net stage.SwitchStateIn Ingress c regs r) where
  abbrev d : Name
  d = c.port.switch

  abbrev packet : Packet
  packet = c.sight.packet

  abbrev stateful : Bool
  stateful = is_stateful net d

  abbrev begins : Action
  begins = begin_in net d packet

  abbrev done : List Action
  done = state_actions stage.SwitchStateIn stateful begins c.words

  once : repeated_vip net d ≡ None
  once = none_repeated net t.valid d (the_switch t).0 (the_switch t).1

  -- ---- registers

  flag_set : (b : Bool) → flag_number b ≡ 1 → b ≡ true
  flag_set true h = refl
  flag_set false h = absurd (omega (arith, h))

  -- a row for connections that begin is held by packets that may begin one
  may_from : ((x : RegIs) → Among x (reg_is reg.Tracked 1 ∷ is_new ∷ []) → reg_number x.reg regs ≡ x.value) → may_begin c.words ≡ true
  may_from each =
      let h = t.at_port.words in
      and_from c.words.tracked (nat_eq (finding_code c.words.finding) 1) (flag_set c.words.tracked (sym h.tracked ∙ each (reg_is reg.Tracked 1) here))
      (eq-eqb (finding_code c.words.finding) 1 (sym h.finding ∙ each is_new (there here)))

  may_to : may_begin c.words ≡ true → (x : RegIs) → Among x (reg_is reg.Tracked 1 ∷ is_new ∷ []) → reg_number x.reg regs ≡ x.value
  may_to may x m =
      let h = t.at_port.words in
      let both = and_parts c.words.tracked (nat_eq (finding_code c.words.finding) 1) may in
      elim (among_cases x (reg_is reg.Tracked 1) (is_new ∷ []) m) [
        | inl own ↦ subst (λ (y : RegIs). reg_number y.reg regs ≡ y.value) (sym own) (h.tracked ∙ ap flag_number both.0)
        | inr n ↦ elim (among_cases x is_new [] n) [
          | inl own ↦ subst (λ (y : RegIs). reg_number y.reg regs ≡ y.value) (sym own) (h.finding ∙ eqb-true (finding_code c.words.finding) 1 both.1)
          | inr none ↦ absurd (among_none x none)
        ]
      ]

  begins_may : begins_now c.words ≡ true → may_begin c.words ≡ true
  begins_may h =
      let one = and_parts c.words.tracked _ h in
      let two = and_parts _ _ one.1 in
      let three = and_parts (nat_eq (finding_code c.words.finding) 1) _ two.1 in
      and_from c.words.tracked (nat_eq (finding_code c.words.finding) 1) one.0 three.0

  -- ---- a balancer's row

  vip_row : (name : Name) (x : LoadBalancer) → IsServingAt net d name x → (v : Vip) → Among v x.vips → r ≡ switch_vip_row (is_online net name) x.protocol v → r.actions ≡ done
  vip_row name x serves v m e =
      let holds : RowHolds (roster_of net) regs c.sight (switch_vip_row (is_online net name) x.protocol v) = subst (λ (z : LFlow). RowHolds (roster_of net) regs c.sight z) e t.best.holds_here in
      let may = may_from holds.registers in
      let goes : GoesTo x.protocol v.at (tuple_of packet) =
      vip_from (roster_of net) c.sight (fields t) t.at_port.whole x.protocol v.at (vip_ok net t.valid d once name x serves.there' v m) (sym (says_all (roster_of net) c.sight (to_vip x.protocol v.at)) ∙ holds.matching) in
      let now : begins_now c.words ≡ true = elim (cases_Bool (begins_now c.words)) [
        | inl so ↦ so
        | inr other ↦
            let q = any_among (is_above stateful stage.SwitchStateIn zone.In c.words 55) (state_rows stateful stage.SwitchStateIn zone.In) (some_above stateful stage.SwitchStateIn zone.In c.words may other) in
            let both = and_parts (words_hold c.words q.0) (nat_lt 55 q.0.priority) q.2 in
            absurd (t.best.unbeaten q.0 (fixed_row t zone.In (λ takes. refl) q.0 q.1) (fixed_holds t zone.In (λ takes. refl) q.0 q.1 both.0)
            (inl (subst (λ n. n < q.0.priority) (sym (ap (λ (z : LFlow). z.priority) e)) (ltb-true 55 q.0.priority both.1))))
      ] in
      let is = its_service net t.valid d once packet name x serves v m goes.tuple goes.is goes.serves goes.to in
      ap (λ (z : LFlow). z.actions) e
      ∙ ap (λ n. a.Balance zone.In v.at (filter (is_online net n) v.backends) ∷ go_on stage.SwitchStateIn ∷ []) (sym (own_name net t.valid name x serves.there'))
      ∙ ap (λ o. begin_with net o ∷ go_on stage.SwitchStateIn ∷ []) (sym is)
      ∙ sym (begun stateful stage.SwitchStateIn zone.In c.words now begins)

  -- ---- a fixed row

  -- where a connection begins to a virtual address, a balancer's row is above it
  no_service : r.priority ≡ 50 → begins_now c.words ≡ true → (s : Service) → service_of net d packet ≡ Some s → ⊥
  no_service low now s is =
      let h = service_by net t.valid d once packet s is in
      let x = h.balancer in
      let v = h.answers.vip in
      let sw = the_switch t in
      let row = switch_vip_row (is_online net h.name) x.protocol v in
      let named : is_named d x.switches ≡ true = elim (or_cases (is_named d x.switches) (is_named d x.routers) h.serving.serves) [
        | inl so ↦ so
        | inr router ↦ absurd (balancer_off net t.valid d sw.0 sw.1 h.name x h.serving.there' router)
      ] in
      t.best.unbeaten row
      (a_balancer_row net stage.SwitchStateIn row d sw.0 sw.1 refl h.name x h.serving.there' h.serving.serves
      (when_in row (is_named d x.switches) (switch_vips (is_online net h.name) x) named (among_map (switch_vip_row (is_online net h.name) x.protocol) v x.vips h.answers.among)))
      (record {
        registers = may_to (begins_may now);
        matching = says_all (roster_of net) c.sight (to_vip x.protocol v.at)
            ∙ vip_to (roster_of net) c.sight (fields t) t.at_port.whole x.protocol v.at (vip_ok net t.valid d once h.name x h.serving.there' v h.answers.among) h.tuple h.is h.answers.serves h.answers.to;
      })
      (inl (subst (λ n. n < 55) (sym low) (omega arith)))

  fixed : Among r (state_rows stateful stage.SwitchStateIn zone.In) → r.actions ≡ done
  fixed m = fixed_does t zone.In (λ takes. refl) m ∙ elim (cases_Bool (begins_now c.words)) [
    | inr other ↦ not_begun stateful stage.SwitchStateIn zone.In c.words other (a.Commit zone.In) begins
    | inl now ↦
        let low = best_is_low stateful stage.SwitchStateIn zone.In c.words now r m (taken_words t zone.In (λ takes. refl) m) (none_above t zone.In (λ takes. refl)) in
        ap (λ x. state_actions stage.SwitchStateIn stateful x c.words) (sym (plain (service_of net d packet) refl (no_service low now)))
  ]
    where
      plain : (o : Option Service) → service_of net d packet ≡ o → ((s : Service) → service_of net d packet ≡ Some s → ⊥) → begin_with net o ≡ a.Commit zone.In
      plain None is none = refl
      plain (Some s) is none = absurd (none s is)

  decided : SwitchRow net stage.SwitchStateIn d r → r.actions ≡ actions_at stage.SwitchStateIn net c
  decided (by_port q port is on m) = elim m [ ]
  decided (by_rule x y is on m) = elim m [ ]
  decided (by_balancer name x is m) =
      let k = in_when r (is_named d x.switches) (switch_vips (is_online net name) x) m in
      let v = map_among (switch_vip_row (is_online net name) x.protocol) r x.vips k.1 in
      vip_row name x (record { there' = is; serves = or_left (is_named d x.switches) (is_named d x.routers) k.0 }) v.0 v.1 v.2
  decided (by_switch m) = fixed m

pub state_in_law : StageLaw stage.SwitchStateIn
state_in_law net valid c regs h r best =
    let t : IsTaken net stage.SwitchStateIn Ingress c regs r = record { valid = valid; of = refl; at_port = h; best = best } in
    decided net c regs r t (its_unit t)
