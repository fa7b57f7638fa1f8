-- s_state_out decides by the verdict and the connection.
use Rattle.std.specs.Prelude.{◌≡◌, [], Bool, true, false, nat_lt}
use Rattle.std.specs.List.{list_any}
use Rattle.std.proofs.Common.{refl, sym, ap, ◌∙◌, subst, inl}
use Rattle.std.proofs.lemmas.Bool.{and_parts, false_from_ne_true, ltb-true}
use Rattle.ovn_base.proofs.AmongLaws.{any_among}
use Rattle.ovn_base.specs.lists.Among.{Among}
use Rattle.flow_table.specs.declared.flow.ZoneOf.{ZoneOf}
use Rattle.flow_table.specs.declared.flow.ZoneOf.TheVariants as zone
use Rattle.inet_packet.specs.declared.regs.Regs.{Regs}
use Rattle.match_language.specs.declared.expr.Expr.{Expr}
use Rattle.nb_records.specs.Network.{Network}
use Rattle.nb_records.specs.Switches.{is_stateful}
use Rattle.logical_flows.specs.Stages.{stage_table}
use Rattle.logical_flows.specs.declared.action.Action.TheVariants as a
use Rattle.logical_flows.specs.declared.flow.LFlow.{LFlow}
use Rattle.logical_flows.specs.declared.stage.Pipeline.{Pipeline}
use Rattle.logical_flows.specs.declared.stage.Pipeline.TheVariants.{Egress}
use Rattle.logical_flows.specs.declared.stage.Stage.{Stage}
use Rattle.logical_flows.specs.declared.stage.Stage.TheVariants as stage
use Rattle.stage_rows.specs.StateRows.{state_rows}
use Rattle.stage_rows.specs.SwitchRows.{some_take_unknown}
use Rattle.stage_rows.specs.Units.{switch_rows}
use Rattle.net_model.specs.Sights.{roster_of, holds_at}
use Rattle.row_laws.proofs.units.RowUnits.{SwitchRow, by_port, by_rule, by_balancer, by_switch, a_switch_row}
use Rattle.row_laws.proofs.switch.StateTable.{is_above, words_hold, row_words, asked_all, best_does, no_match}
use Rattle.row_laws.proofs.units.TakenRow.{IsTaken, its_unit, the_switch}
use Rattle.row_laws.proofs.terms.Terms.{says_all}
use Rattle.row_laws.specs.Copies.{Copy}
use Rattle.row_laws.specs.Rows.{IsRowIn, RowHolds}
use Rattle.row_laws.specs.StageActions.{state_actions, actions_at}
use Rattle.row_laws.specs.StageLaws.{StageLaw}

-- ---- a stage with the fixed rows

module _ {net : Network} {s : Stage} {way : Pipeline} {c : Copy} {regs : Regs} {r : LFlow} (t : IsTaken net s way c regs r) (z : ZoneOf)
    (fixed : (takes : Bool) → switch_rows s (is_stateful net c.port.switch) takes ≡ state_rows (is_stateful net c.port.switch) s z) where
  abbrev stateful : Bool
  stateful = is_stateful net c.port.switch

  -- a fixed row that the words hold is a row that holds
  pub fixed_holds : (q : LFlow) → Among q (state_rows stateful s z) → words_hold c.words q ≡ true → RowHolds (roster_of net) regs c.sight q
  fixed_holds q m h = record {
    registers = asked_all c.words regs t.at_port.words q.regs h;
    matching = ap (λ (x : Expr). holds_at (roster_of net) c.sight x) (no_match stateful s z q m) ∙ says_all (roster_of net) c.sight [];
  }

  pub fixed_row : (q : LFlow) → Among q (state_rows stateful s z) → IsRowIn net (stage_table s) c.port.switch q
  fixed_row q m = a_switch_row net s q c.port.switch (the_switch t).0 (the_switch t).1 (subst (λ rows. Among q rows) (sym (fixed (some_take_unknown net c.port.switch))) m)

  -- no fixed row that the words hold is above the row that is taken
  pub none_above : list_any (is_above stateful s z c.words r.priority) (state_rows stateful s z) ≡ false
  none_above = false_from_ne_true (list_any (is_above stateful s z c.words r.priority) (state_rows stateful s z)) (λ h.
      let q = any_among (is_above stateful s z c.words r.priority) (state_rows stateful s z) h in
      let both = and_parts (words_hold c.words q.0) (nat_lt r.priority q.0.priority) q.2 in
      t.best.unbeaten q.0 (fixed_row q.0 q.1) (fixed_holds q.0 q.1 both.0) (inl (ltb-true r.priority q.0.priority both.1)))

  pub taken_words : Among r (state_rows stateful s z) → words_hold c.words r ≡ true
  taken_words m = row_words stateful s z c.words regs t.at_port.words r m t.best.holds_here.registers

  pub fixed_does : Among r (state_rows stateful s z) → r.actions ≡ state_actions s stateful (a.Commit z) c.words
  fixed_does m = best_does stateful s z c.words r m (taken_words m) none_above

-- ---- s_state_out

module _ (net : Network) (c : Copy) (regs : Regs) (r : LFlow) (t : IsTaken net stage.SwitchStateOut Egress c regs r) where
  decided : SwitchRow net stage.SwitchStateOut c.port.switch r → r.actions ≡ actions_at stage.SwitchStateOut net c
  decided (by_port q port is on m) = elim m [ ]
  decided (by_rule x y is on m) = elim m [ ]
  decided (by_balancer x y is m) = elim m [ ]
  decided (by_switch m) = fixed_does t zone.Out (λ takes. refl) m

pub state_out_law : StageLaw stage.SwitchStateOut
state_out_law net valid c regs h r best =
    let t : IsTaken net stage.SwitchStateOut Egress c regs r = record { valid = valid; of = refl; at_port = h; best = best } in
    decided net c regs r t (its_unit t)
