-- s_track and s_track_out look for the connections of packets that are tracked, and s_track_out drops what goes to a disabled port.
use Rattle.std.specs.Prelude.{◌≡◌, ◌<◌, ◌∷◌, [], ◌&&◌, ◌||◌, ℕ, Bool, true, false, not, cond, List, Some, None}
use Rattle.std.proofs.Common.{refl, sym, ap, ◌∙◌, arith, inl, inr}
use Rattle.std.proofs.lemmas.Bool.{cases_Bool, and_parts, and_from}
use Rattle.ovn_base.proofs.AmongLaws.{among_append, among_left, among_right}
use Rattle.ovn_base.specs.addresses.EtherAddress.{is_multicast_mac}
use Rattle.ovn_base.specs.declared.name.Name.{Name}
use Rattle.ovn_base.specs.lists.Among.{Among, here}
use Rattle.ovn_base.specs.names.ByName.{at}
use Rattle.flow_table.specs.declared.flow.Cause.TheVariants as cause
use Rattle.flow_table.specs.declared.flow.ZoneOf.TheVariants as zone
use Rattle.inet_packet.specs.declared.regs.Reg.TheVariants as reg
use Rattle.inet_packet.specs.declared.regs.Regs.{Regs}
use Rattle.match_language.specs.declared.expr.Expr.{Expr}
use Rattle.match_language.specs.declared.expr.Expr.TheVariants as e
use Rattle.match_language.specs.declared.field.Predicate.TheVariants as p
use Rattle.nb_records.specs.Network.{Network}
use Rattle.nb_records.specs.Switches.{is_virtual, is_stateful, has_balancer}
use Rattle.nb_records.specs.declared.switch.SwitchPort.{SwitchPort}
use Rattle.logical_flows.specs.declared.action.Action.{Action}
use Rattle.logical_flows.specs.declared.action.Action.TheVariants as a
use Rattle.logical_flows.specs.declared.flow.LFlow.{LFlow}
use Rattle.logical_flows.specs.declared.stage.Pipeline.{Pipeline}
use Rattle.logical_flows.specs.declared.stage.Pipeline.TheVariants.{Ingress, Egress}
use Rattle.logical_flows.specs.declared.stage.Stage.{Stage}
use Rattle.logical_flows.specs.declared.stage.Stage.TheVariants as stage
use Rattle.stage_rows.specs.Rows.{in_is, out_is, unicast, drop_row, base_row, go_on}
use Rattle.stage_rows.specs.SwitchRows.{tracks, tracks_port, port_track_row, port_track_out_row, port_track_out, port_disabled_out}
use Rattle.net_model.specs.Headers.{carries_ip4}
use Rattle.net_model.specs.Sights.{roster_of, holds_at}
use Rattle.net_model.specs.Tracking.{is_tracked}
use Rattle.row_laws.proofs.units.RowUnits.{SwitchRow, by_port, by_rule, by_balancer, by_switch, in_when, when_in}
use Rattle.row_laws.proofs.units.TakenRow.{IsTaken, AllSay, among_one, its_unit, fields, taken_terms, no_port_above, entry_meant, entry_own, exit_meant, exit_own}
use Rattle.row_laws.proofs.terms.Terms.{says_ip4, says_unicast}
use Rattle.row_laws.specs.Copies.{Copy}
use Rattle.row_laws.specs.StageActions.{track_actions, track_out_actions}
use Rattle.row_laws.specs.StageLaws.{StageLaw}

-- ---- which packets

module _ {net : Network} {s : Stage} {way : Pipeline} {c : Copy} {regs : Regs} {r : LFlow} (t : IsTaken net s way c regs r) where
  abbrev here_says : Expr → Bool
  here_says x = holds_at (roster_of net) c.sight x

  -- a port's row of packets that are tracked holds of these
  tracked_from : (port : Expr) (q : SwitchPort) → tracks_port net q ≡ true → AllSay net c.sight (tracks port) → is_tracked net q c.sight.packet ≡ true
  tracked_from port q tracks say =
      let here = and_parts (is_virtual q) (is_stateful net q.switch || has_balancer net q.switch) tracks in
      let two = (and_parts (here_says port) (here_says (e.Is p.Ip4) && (here_says unicast && true)) say).1 in
      let three = and_parts (here_says (e.Is p.Ip4)) (here_says unicast && true) two in
      let ip4 = sym (says_ip4 (roster_of net) c.sight (fields t)) ∙ three.0 in
      let single = sym (says_unicast (roster_of net) c.sight) ∙ (and_parts (here_says unicast) true three.1).0 in
      λ k. here.0 k && (ip4 k && (single k && here.1 k))

  tracked_to : (port : Expr) (q : SwitchPort) → here_says port ≡ true → is_tracked net q c.sight.packet ≡ true → (tracks_port net q ≡ true) × AllSay net c.sight (tracks port)
  tracked_to port q own h =
      let one = and_parts (is_virtual q) _ h in
      let two = and_parts (carries_ip4 c.sight.packet) _ one.1 in
      let three = and_parts (not (is_multicast_mac c.sight.packet.dst)) (is_stateful net q.switch || has_balancer net q.switch) two.1 in (
        and_from (is_virtual q) (is_stateful net q.switch || has_balancer net q.switch) one.0 three.1,
        and_from (here_says port) (here_says (e.Is p.Ip4) && (here_says unicast && true)) own
            (and_from (here_says (e.Is p.Ip4)) (here_says unicast && true) (says_ip4 (roster_of net) c.sight (fields t) ∙ two.0) (and_from (here_says unicast) true (says_unicast (roster_of net) c.sight ∙ three.0) refl)),
      )

-- ---- s_track

module _ (net : Network) (c : Copy) (regs : Regs) (r : LFlow) (t : IsTaken net stage.SwitchTrack Ingress c regs r) where
  tracked : SwitchRow net stage.SwitchTrack c.port.switch r → r.actions ≡ track_actions stage.SwitchTrack zone.In (is_tracked net c.port c.sight.packet)
  tracked (by_port q port is on m) =
      let k = in_when r (tracks_port net port) (port_track_row port ∷ []) m in
      let e = among_one r (port_track_row port) k.1 in
      let say = taken_terms t 100 (tracks (in_is port.name)) (a.Find zone.In ∷ a.Set reg.Tracked 1 ∷ go_on stage.SwitchTrack ∷ []) e in
      let own : port ≡ c.port = entry_meant t q port is (and_parts (here_says t (in_is port.name)) _ say).0 in
      ap (λ (z : LFlow). z.actions) e ∙ ap (track_actions stage.SwitchTrack zone.In) (sym (tracked_from t (in_is port.name) port k.0 say) ∙ ap (λ x. is_tracked net x c.sight.packet) own)
  tracked (by_rule x y is on m) = elim m [ ]
  tracked (by_balancer x y is m) = elim m [ ]
  tracked (by_switch m) =
      let e = among_one r (base_row stage.SwitchTrack) m in
      elim (cases_Bool (is_tracked net c.port c.sight.packet)) [
        | inl h ↦
            let k = tracked_to t (in_is c.port.name) c.port (entry_own t) h in
            absurd (no_port_above t 0 (ap (λ (z : LFlow). z.priority) e) 100 (tracks (in_is c.port.name)) (a.Find zone.In ∷ a.Set reg.Tracked 1 ∷ go_on stage.SwitchTrack ∷ []) (omega arith) k.1
            c.port.name c.port t.at_port.there refl (when_in (port_track_row c.port) (tracks_port net c.port) (port_track_row c.port ∷ []) k.0 here))
        | inr h ↦ ap (λ (z : LFlow). z.actions) e ∙ ap (track_actions stage.SwitchTrack zone.In) (sym h)
      ]

pub track_law : StageLaw stage.SwitchTrack
track_law net valid c regs h r best =
    let t : IsTaken net stage.SwitchTrack Ingress c regs r = record { valid = valid; of = refl; at_port = h; best = best } in
    tracked net c regs r t (its_unit t)

-- ---- s_track_out

module _ (net : Network) (c : Copy) (regs : Regs) (r : LFlow) (t : IsTaken net stage.SwitchTrackOut Egress c regs r) where
  abbrev done : Bool → Bool → List Action
  done off tracked = track_out_actions (cond off (Some cause.Disabled) None) tracked

  abbrev off : Bool
  off = not c.port.enabled

  abbrev off_row : SwitchPort → LFlow
  off_row q = drop_row stage.SwitchTrackOut 120 (out_is q.name ∷ []) cause.Disabled

  enabled : (low : ℕ) → r.priority ≡ low → low < 120 → off ≡ false
  enabled low is less = elim (cases_Bool off) [
    | inl h ↦ absurd (no_port_above t low is 120 (out_is c.port.name ∷ []) (a.Drop cause.Disabled ∷ []) less (and_from (here_says t (out_is c.port.name)) true (exit_own t) refl)
        c.port.name c.port t.at_port.there refl
        (among_left (off_row c.port) (port_disabled_out c.port) _ (when_in (off_row c.port) off (off_row c.port ∷ []) h here)))
    | inr h ↦ h
  ]

  of_port : (q : Name) (port : SwitchPort) → at net.switch_ports q ≡ Some port → Among r (port_track_out net port) → r.actions ≡ done off (is_tracked net c.port c.sight.packet)
  of_port q port is m = elim (among_append r (port_disabled_out port) _ m) [
    | inl n ↦
        let k = in_when r (not port.enabled) (off_row port ∷ []) n in
        let e = among_one r (off_row port) k.1 in
        let own : port ≡ c.port = exit_meant t q port is (and_parts (here_says t (out_is port.name)) true (taken_terms t 120 (out_is port.name ∷ []) (a.Drop cause.Disabled ∷ []) e)).0 in
        ap (λ (z : LFlow). z.actions) e ∙ ap (λ b. done b (is_tracked net c.port c.sight.packet)) (sym k.0 ∙ ap (λ (x : SwitchPort). not x.enabled) own)
    | inr n ↦
        let k = in_when r (tracks_port net port) (port_track_out_row port ∷ []) n in
        let e = among_one r (port_track_out_row port) k.1 in
        let say = taken_terms t 100 (tracks (out_is port.name)) (a.Find zone.Out ∷ a.Set reg.Tracked 1 ∷ go_on stage.SwitchTrackOut ∷ []) e in
        let own : port ≡ c.port = exit_meant t q port is (and_parts (here_says t (out_is port.name)) _ say).0 in
        let tracked = sym (ap (λ x. is_tracked net x c.sight.packet) own) ∙ tracked_from t (out_is port.name) port k.0 say in
        ap (λ (z : LFlow). z.actions) e ∙ sym (λ j. done (enabled 100 (ap (λ (z : LFlow). z.priority) e) (omega arith) j) (tracked j))
  ]

  tracked_out : SwitchRow net stage.SwitchTrackOut c.port.switch r → r.actions ≡ done off (is_tracked net c.port c.sight.packet)
  tracked_out (by_port q port is on m) = of_port q port is m
  tracked_out (by_rule x y is on m) = elim m [ ]
  tracked_out (by_balancer x y is m) = elim m [ ]
  tracked_out (by_switch m) =
      let e = among_one r (base_row stage.SwitchTrackOut) m in
      let on = enabled 0 (ap (λ (z : LFlow). z.priority) e) (omega arith) in
      elim (cases_Bool (is_tracked net c.port c.sight.packet)) [
        | inl h ↦
            let k = tracked_to t (out_is c.port.name) c.port (exit_own t) h in
            absurd (no_port_above t 0 (ap (λ (z : LFlow). z.priority) e) 100 (tracks (out_is c.port.name)) (a.Find zone.Out ∷ a.Set reg.Tracked 1 ∷ go_on stage.SwitchTrackOut ∷ []) (omega arith) k.1
            c.port.name c.port t.at_port.there refl
            (among_right (port_track_out_row c.port) (port_disabled_out c.port) _ (when_in (port_track_out_row c.port) (tracks_port net c.port) (port_track_out_row c.port ∷ []) k.0 here)))
        | inr h ↦ ap (λ (z : LFlow). z.actions) e ∙ sym (λ j. done (on j) (h j))
      ]

pub track_out_law : StageLaw stage.SwitchTrackOut
track_out_law net valid c regs h r best =
    let t : IsTaken net stage.SwitchTrackOut Egress c regs r = record { valid = valid; of = refl; at_port = h; best = best } in
    tracked_out net c regs r t (its_unit t)
