-- The ingress pipeline of a switch, stage after stage.
use Rattle.std.specs.Prelude.{◌≡◌, ◌&&◌, ◌||◌, not, ℕ, Bool, true, false, [], ◌∷◌, refl}
use Rattle.std.proofs.Common.{sym, ◌∙◌}
use Rattle.std.proofs.lemmas.Bool.{and_parts}
use Rattle.inet_packet.specs.declared.packet.Packet.{Packet}
use Rattle.logical_flows.specs.Stages.{stage_table}
use Rattle.logical_flows.specs.declared.stage.Pipeline.TheVariants.{Ingress}
use Rattle.logical_flows.specs.declared.stage.Stage.TheVariants as stage
use Rattle.match_language.specs.declared.field.Direction.TheVariants.{FromLport}
use Rattle.nb_records.specs.Switches.{is_virtual, is_stateful, has_balancer}
use Rattle.nb_records.specs.declared.switch.SwitchPort.{SwitchPort}
use Rattle.net_model.specs.Entry.{admission, security_in, sight_in, passage_in, judge_in, secure_in}
use Rattle.net_model.specs.Headers.{carries_ip4}
use Rattle.net_model.specs.Targets.{target_of}
use Rattle.net_model.specs.Tracking.{is_tracked, pass, pass_if}
use Rattle.net_model.specs.Trail.{Trail, Lists, spot_of, unless, finally}
use Rattle.net_model.specs.Verdict.{Verdict, default, verdict_of}
use Rattle.ovn_base.specs.addresses.EtherAddress.{is_multicast_mac}
use Rattle.row_laws.specs.Copies.{Words}
use Rattle.row_laws.specs.StageActions.{begin_in}
use Rattle.row_laws.specs.StageLaws.{OfEachStage, TableLaw}
use Rattle.switch_engine.specs.Zones.{ZoneLists}
use Rattle.switch_engine.specs.declared.carried.Carried.{Carried}
use Rattle.sim_laws.proofs.pipelines.Copies.{reworded}
use Rattle.sim_laws.proofs.pipelines.Noting.{Stands, StandsBy, BeforeStage, unless_step, stands_next}
use Rattle.sim_laws.proofs.pipelines.Pieces.{finally_then, comes_then, comes_same}
use Rattle.sim_laws.proofs.pipelines.Registers.{still_at_first}
use Rattle.sim_laws.proofs.pipelines.Services.{begins_in}
use Rattle.sim_laws.proofs.pipelines.StateStage.{tracked_step, untracked_step}
use Rattle.sim_laws.proofs.pipelines.Tables.{table_step}
use Rattle.sim_laws.proofs.pipelines.TargetStages.{in_switch, gets_target}
use Rattle.sim_laws.proofs.pipelines.TrackJudge.{passing, at_port, unknown, track_step, judge_step}
use Rattle.sim_laws.specs.pipelines.Ingress.{Aimed, to_target, way_in, GoesTo, IngressLaw}
use Rattle.sim_laws.specs.pipelines.Pieces.{Piece, trail_with, ComesTo}
use Rattle.sim_laws.specs.pipelines.Standing.{Chassis, net_of, course_of, IsLaidOut}
use Rattle.sim_laws.specs.pipelines.WalkOn.{Comes}

module _ (s : Chassis) (laid : IsLaidOut s) (law : OfEachStage TableLaw) (first : Carried) (i : SwitchPort) where
  -- ---- before each table

  abbrev verdict : Packet → Verdict
  verdict p = verdict_of (net_of s) i.switch FromLport (sight_in i p)

  abbrev tracked : Packet → Bool
  tracked p = is_tracked (net_of s) i p

  abbrev Plain : ℕ → Lists → Packet → ZoneLists → Carried → Type 0
  Plain table lists p zones copy = Stands s Ingress table first (unknown i (sight_in i p)) lists zones copy

  abbrev Tracked : Lists → Packet → ZoneLists → Carried → Type 0
  Tracked lists p zones copy = StandsBy s Ingress (stage_table stage.SwitchAclIn) first (at_port i (sight_in i p) lists default (tracked p)) lists zones copy

  abbrev Judged : Lists → Packet → ZoneLists → Carried → Type 0
  Judged lists p zones copy = StandsBy s Ingress (stage_table stage.SwitchStateIn) first (at_port i (sight_in i p) lists (verdict p) (tracked p)) lists zones copy

  -- the packet is in the switch
  pub record Inside (lists : Lists) (p : Packet) (zones : ZoneLists) (copy : Carried) : Type 0 where
    words : Words
    stands : Stands s Ingress (stage_table stage.SwitchArp) first (in_switch i p words) lists zones copy

  -- ---- the pieces, each with the rest of the way

  abbrev Lands : Piece Aimed → Lists → ZoneLists → Carried → Type 0
  Lands piece lists zones copy = Comes (course_of s) zones (copy ∷ []) (ComesTo s piece lists (GoesTo s i first))

  abbrev target_piece : Packet → Piece Aimed
  target_piece p rest t = to_target (target_of (net_of s) i p) i p rest t

  abbrev state_piece : Packet → Piece Packet
  state_piece p rest t = finally (pass (passage_in s.scene i p) t p) rest

  abbrev from_state : Packet → Piece Aimed
  from_state p rest t = state_piece p (λ u q. target_piece q rest u) t

  abbrev security_piece : Packet → Piece Packet
  security_piece p rest t = finally (unless (security_in i p) (spot_of i) t p) rest

  abbrev from_security : Packet → Piece Aimed
  from_security p rest t = security_piece p (λ u q. from_state q rest u) t

  abbrev admit_piece : Packet → Piece Packet
  admit_piece p rest t = finally (unless (admission i p) (spot_of i) t p) rest

  abbrev from_admit : Packet → Piece Aimed
  from_admit p rest t = admit_piece p (λ u q. from_security q rest u) t

  -- ---- the stages, from the last to the first

  target_lands : (lists : Lists) (p : Packet) (zones : ZoneLists) (copy : Carried) → Inside lists p zones copy → Lands (target_piece p) lists zones copy
  target_lands lists p zones copy h = gets_target s laid law first i p h.words lists zones copy h.stands

  module _ (lists : Lists) (p : Packet) (zones : ZoneLists) (copy : Carried) where
    inside : (b : Bool) (after : Lists) (q : Packet) (last : ZoneLists) (next : Carried)
        → Stands s Ingress (stage_table stage.SwitchArp) first (reworded (at_port i (sight_in i p) lists (verdict p) b) q (at_port i (sight_in i p) lists (verdict p) b).words) after last next → Inside after q last next
    inside b after q last next h = record { words = (at_port i (sight_in i p) lists (verdict p) b).words; stands = h }

    by_tracked : (b : Bool) → (b ≡ true → is_virtual i ≡ true) → StandsBy s Ingress (stage_table stage.SwitchStateIn) first (at_port i (sight_in i p) lists (verdict p) b) lists zones copy
        → Comes (course_of s) zones (copy ∷ []) (ComesTo s (λ rest t. finally (pass_if b (passage_in s.scene i p) t p) rest) lists Inside)
    by_tracked false virtual h =
        untracked_step s laid stage.SwitchStateIn Ingress FromLport first i (sight_in i p) (verdict p) lists zones copy (λ regs. refl) Inside h (inside false) (begin_in (net_of s) i.switch p)
        (λ So does. table_step s laid stage.SwitchStateIn law.state_in laid.tables.state_in (at_port i (sight_in i p) lists (verdict p) false) lists zones copy h.here.stands So does)
    by_tracked true virtual h =
        tracked_step s laid stage.SwitchStateIn Ingress FromLport first i (sight_in i p) (verdict p) lists zones copy (λ regs. refl) Inside h (virtual refl) (inside true) (begin_in (net_of s) i.switch p)
        (begins_in s laid first i p (verdict p) lists zones copy h (virtual refl) Inside (inside true))
        (λ So does. table_step s laid stage.SwitchStateIn law.state_in laid.tables.state_in (at_port i (sight_in i p) lists (verdict p) true) lists zones copy h.here.stands So does)

    virtual_if : tracked p ≡ true → is_virtual i ≡ true
    virtual_if h = (and_parts (is_virtual i) (carries_ip4 p && (not (is_multicast_mac p.dst) && (is_stateful (net_of s) i.switch || has_balancer (net_of s) i.switch))) h).0

    state_lands : Judged lists p zones copy → Lands (from_state p) lists zones copy
    state_lands h = comes_then s (state_piece p) target_piece lists Inside (GoesTo s i first) zones (copy ∷ []) (by_tracked (tracked p) virtual_if h) (λ after q last next goes. target_lands after q last next goes)

  judge_lands : (lists : Lists) (p : Packet) (zones : ZoneLists) (copy : Carried) → Tracked lists p zones copy → Lands (from_state p) lists zones copy
  judge_lands lists p zones copy h =
      comes_then s (passing p) from_state lists Judged (GoesTo s i first) zones (copy ∷ [])
      (judge_step s stage.SwitchAclIn Ingress first i (sight_in i p) lists zones copy (λ regs. refl) Judged (tracked p) h (verdict p) (λ next so. so)
      (λ So does. table_step s laid stage.SwitchAclIn law.acl_in laid.tables.acl_in (at_port i (sight_in i p) lists default (tracked p)) lists zones copy h.here.stands So does))
      state_lands

  track_lands : (lists : Lists) (p : Packet) (zones : ZoneLists) (copy : Carried) → Plain (stage_table stage.SwitchTrack) lists p zones copy → Lands (from_state p) lists zones copy
  track_lands lists p zones copy h =
      comes_then s (passing p) from_state lists Tracked (GoesTo s i first) zones (copy ∷ [])
      (track_step s stage.SwitchTrack Ingress first i (sight_in i p) lists zones copy (λ regs. refl) Tracked h (tracked p) (virtual_if lists p zones copy) (λ next so. so)
      (λ So does. table_step s laid stage.SwitchTrack law.track laid.tables.track (unknown i (sight_in i p)) lists zones copy h.stands So does))
      judge_lands

  security_lands : (lists : Lists) (p : Packet) (zones : ZoneLists) (copy : Carried) → Plain (stage_table stage.SwitchPortSecurity) lists p zones copy → Lands (from_security p) lists zones copy
  security_lands lists p zones copy h =
      let before : BeforeStage s = record { stage = stage.SwitchPortSecurity; way = Ingress; first = first; c = unknown i (sight_in i p); lists = lists; zones = zones; copy = copy; here = h; place = λ regs. refl } in
      comes_then s (security_piece p) from_state lists (Plain (stage_table stage.SwitchTrack)) (GoesTo s i first) zones (copy ∷ [])
      (unless_step s before (Plain (stage_table stage.SwitchTrack))
      (stands_next s before (stage_table stage.SwitchTrack)) (security_in i p)
      (λ So does. table_step s laid stage.SwitchPortSecurity law.port_security laid.tables.port_security (unknown i (sight_in i p)) lists zones copy h.stands So does))
      track_lands

  admit_lands : (lists : Lists) (p : Packet) (zones : ZoneLists) (copy : Carried) → Plain (stage_table stage.SwitchAdmit) lists p zones copy → Lands (from_admit p) lists zones copy
  admit_lands lists p zones copy h =
      let before : BeforeStage s = record { stage = stage.SwitchAdmit; way = Ingress; first = first; c = unknown i (sight_in i p); lists = lists; zones = zones; copy = copy; here = h; place = λ regs. refl } in
      comes_then s (admit_piece p) from_security lists (Plain (stage_table stage.SwitchPortSecurity)) (GoesTo s i first) zones (copy ∷ [])
      (unless_step s before (Plain (stage_table stage.SwitchPortSecurity))
      (stands_next s before (stage_table stage.SwitchPortSecurity)) (admission i p)
      (λ So does. table_step s laid stage.SwitchAdmit law.admit laid.tables.admit (unknown i (sight_in i p)) lists zones copy h.stands So does))
      security_lands

  -- the pieces, one after another, are the way in
  same_way : (p : Packet) (rest : Trail → Aimed → Trail) (t : Trail) → from_admit p rest t ≡ way_in s i p rest t
  same_way p rest t =
      let target : Trail → Packet → Trail = λ u q. target_piece q rest u in
      (λ k. finally (unless (admission i p) (spot_of i) t p) (λ u q. sym (finally_then (unless (security_in i q) (spot_of i) u q) (judge_in s.scene i) target) k))
      ∙ sym (finally_then (unless (admission i p) (spot_of i) t p) (secure_in s.scene i) target)

-- the law of the ingress pipeline
pub ingress : OfEachStage TableLaw → IngressLaw
ingress law s laid i p lists zones copy h =
    comes_same s (from_admit s laid law copy i p) (way_in s i p) lists (GoesTo s i copy) (λ rest choices ends. same_way s laid law copy i p rest (trail_with lists choices ends)) zones (copy ∷ [])
    (admit_lands s laid law copy i lists p zones copy (record { stands = h; still = still_at_first copy }))
