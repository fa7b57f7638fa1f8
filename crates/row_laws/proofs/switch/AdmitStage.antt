-- s_admit drops what comes from a disabled port or from a group's address, and what has a tag.
use Rattle.std.specs.Prelude.{◌≡◌, ◌<◌, ◌∷◌, [], ℕ, Bool, true, false, not, cond, List, Some, None}
use Rattle.std.proofs.Common.{refl, sym, ap, ◌∙◌, arith, inl, inr}
use Rattle.std.proofs.lemmas.Bool.{cases_Bool, and_parts, and_from}
use Rattle.ovn_base.proofs.AmongLaws.{among_cases}
use Rattle.ovn_base.specs.addresses.EtherAddress.{is_multicast_mac}
use Rattle.ovn_base.specs.declared.name.Name.{Name}
use Rattle.ovn_base.specs.lists.Among.{Among, here, there}
use Rattle.ovn_base.specs.names.ByName.{at}
use Rattle.flow_table.specs.declared.flow.Cause.TheVariants as cause
use Rattle.inet_packet.specs.declared.packet.Packet.{Packet}
use Rattle.inet_packet.specs.declared.regs.Regs.{Regs}
use Rattle.match_language.specs.declared.field.Field.TheVariants as f
use Rattle.nb_records.specs.Network.{Network}
use Rattle.nb_records.specs.declared.switch.SwitchPort.{SwitchPort}
use Rattle.logical_flows.specs.declared.action.Action.{Action}
use Rattle.logical_flows.specs.declared.action.Action.TheVariants as a
use Rattle.logical_flows.specs.declared.flow.LFlow.{LFlow}
use Rattle.logical_flows.specs.declared.stage.Pipeline.TheVariants.{Ingress}
use Rattle.logical_flows.specs.declared.stage.Stage.TheVariants as stage
use Rattle.stage_rows.specs.Rows.{in_is, field_is, drop_row, base_row}
use Rattle.stage_rows.specs.SwitchRows.{port_admit, from_group}
use Rattle.net_model.specs.Headers.{is_tagged}
use Rattle.net_model.specs.Sights.{roster_of, holds_at}
use Rattle.row_laws.proofs.units.RowUnits.{SwitchRow, by_port, by_rule, by_balancer, by_switch, in_when, when_in}
use Rattle.row_laws.proofs.units.TakenRow.{IsTaken, among_one, its_unit, fields, taken_terms, no_port_above, no_switch_above, entry_meant, entry_own}
use Rattle.row_laws.proofs.terms.Terms.{says_from_group, says_tagged}
use Rattle.row_laws.specs.Copies.{Copy}
use Rattle.row_laws.specs.StageActions.{unless_dropped, actions_at}
use Rattle.row_laws.specs.StageLaws.{StageLaw}

-- what is done, by the three tests
abbrev done : Bool → Bool → Bool → List Action
done off many tagged = unless_dropped stage.SwitchAdmit (cond off (Some cause.Disabled) (cond many (Some cause.BadSource) (cond tagged (Some cause.Vlan) None)))

module _ (net : Network) (c : Copy) (regs : Regs) (r : LFlow) (t : IsTaken net stage.SwitchAdmit Ingress c regs r) where
  abbrev p : Packet
  p = c.sight.packet

  abbrev off : Bool
  off = not c.port.enabled

  -- no row above it holds
  enabled : (low : ℕ) → r.priority ≡ low → low < 120 → off ≡ false
  enabled low is less = elim (cases_Bool off) [
    | inl h ↦ absurd (no_port_above t low is 120 (in_is c.port.name ∷ []) (a.Drop cause.Disabled ∷ []) less (and_from (holds_at (roster_of net) c.sight (in_is c.port.name)) true (entry_own t) refl)
        c.port.name c.port t.at_port.there refl (when_in (drop_row stage.SwitchAdmit 120 (in_is c.port.name ∷ []) cause.Disabled) off (drop_row stage.SwitchAdmit 120 (in_is c.port.name ∷ []) cause.Disabled ∷ []) h here))
    | inr h ↦ h
  ]

  single : (low : ℕ) → r.priority ≡ low → low < 110 → is_multicast_mac p.src ≡ false
  single low is less = elim (cases_Bool (is_multicast_mac p.src)) [
    | inl h ↦ absurd (no_switch_above t low is 110 (from_group ∷ []) (a.Drop cause.BadSource ∷ []) less (and_from (holds_at (roster_of net) c.sight from_group) true (says_from_group (roster_of net) c.sight ∙ h) refl) here)
    | inr h ↦ h
  ]

  bare : (low : ℕ) → r.priority ≡ low → low < 100 → is_tagged p ≡ false
  bare low is less = elim (cases_Bool (is_tagged p)) [
    | inl h ↦ absurd (no_switch_above t low is 100 (field_is f.EthType 0x8100 ∷ []) (a.Drop cause.Vlan ∷ []) less
        (and_from (holds_at (roster_of net) c.sight (field_is f.EthType 0x8100)) true (says_tagged (roster_of net) c.sight (fields t) ∙ h) refl) (there here))
    | inr h ↦ h
  ]

  by_port_row : (q : Name) (port : SwitchPort) → at net.switch_ports q ≡ Some port → Among r (port_admit port) → r.actions ≡ done off (is_multicast_mac p.src) (is_tagged p)
  by_port_row q port is m =
      let k = in_when r (not port.enabled) (drop_row stage.SwitchAdmit 120 (in_is port.name ∷ []) cause.Disabled ∷ []) m in
      let e = among_one r (drop_row stage.SwitchAdmit 120 (in_is port.name ∷ []) cause.Disabled) k.1 in
      let own : port ≡ c.port = entry_meant t q port is (and_parts (holds_at (roster_of net) c.sight (in_is port.name)) true (taken_terms t 120 (in_is port.name ∷ []) (a.Drop cause.Disabled ∷ []) e)).0 in
      ap (λ (z : LFlow). z.actions) e ∙ ap (λ b. done b (is_multicast_mac p.src) (is_tagged p)) (sym k.0 ∙ ap (λ (x : SwitchPort). not x.enabled) own)

  abbrev group_row : LFlow
  group_row = drop_row stage.SwitchAdmit 110 (from_group ∷ []) cause.BadSource

  abbrev tag_row : LFlow
  tag_row = drop_row stage.SwitchAdmit 100 (field_is f.EthType 0x8100 ∷ []) cause.Vlan

  rank : (row : LFlow) → r ≡ row → r.priority ≡ row.priority
  rank row e = ap (λ (z : LFlow). z.priority) e

  by_switch_row : Among r (group_row ∷ tag_row ∷ base_row stage.SwitchAdmit ∷ []) → r.actions ≡ done off (is_multicast_mac p.src) (is_tagged p)
  by_switch_row m = elim (among_cases r group_row (tag_row ∷ base_row stage.SwitchAdmit ∷ []) m) [
    | inl e ↦
        let many = sym (says_from_group (roster_of net) c.sight) ∙ (and_parts (holds_at (roster_of net) c.sight from_group) true (taken_terms t 110 (from_group ∷ []) (a.Drop cause.BadSource ∷ []) e)).0 in
        ap (λ (z : LFlow). z.actions) e ∙ sym (λ k. done (enabled 110 (rank group_row e) (omega arith) k) (many k) (is_tagged p))
    | inr n ↦ elim (among_cases r tag_row (base_row stage.SwitchAdmit ∷ []) n) [
      | inl e ↦
          let tagged = sym (says_tagged (roster_of net) c.sight (fields t)) ∙ (and_parts (holds_at (roster_of net) c.sight (field_is f.EthType 0x8100)) true (taken_terms t 100 (field_is f.EthType 0x8100 ∷ []) (a.Drop cause.Vlan ∷ []) e)).0 in
          ap (λ (z : LFlow). z.actions) e ∙ sym (λ k. done (enabled 100 (rank tag_row e) (omega arith) k) (single 100 (rank tag_row e) (omega arith) k) (tagged k))
      | inr o ↦
          let e = among_one r (base_row stage.SwitchAdmit) o in
          let is = rank (base_row stage.SwitchAdmit) e in
          ap (λ (z : LFlow). z.actions) e ∙ sym (λ k. done (enabled 0 is (omega arith) k) (single 0 is (omega arith) k) (bare 0 is (omega arith) k))
    ]
  ]

  admitted : SwitchRow net stage.SwitchAdmit c.port.switch r → r.actions ≡ actions_at stage.SwitchAdmit net c
  admitted (by_port q port is on m) = by_port_row q port is m
  admitted (by_rule x y is on m) = elim m [ ]
  admitted (by_balancer x y is m) = elim m [ ]
  admitted (by_switch m) = by_switch_row m

pub admit_law : StageLaw stage.SwitchAdmit
admit_law net valid c regs h r best =
    let t : IsTaken net stage.SwitchAdmit Ingress c regs r = record { valid = valid; of = refl; at_port = h; best = best } in
    admitted net c regs r t (its_unit t)
