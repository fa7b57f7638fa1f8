-- The egress pipeline of a switch, stage after stage.
use Rattle.std.specs.Prelude.{◌≡◌, ◌&&◌, ◌||◌, not, Bool, true, false, List, [], ◌∷◌, Option, Some, None, refl}
use Rattle.std.proofs.Common.{sym, subst, ◌∙◌}
use Rattle.std.proofs.lemmas.Bool.{and_parts}
use Rattle.flow_table.specs.declared.flow.Cause.{Cause}
use Rattle.flow_table.specs.declared.flow.ZoneOf.TheVariants as zone
use Rattle.inet_packet.specs.Whole.{IsWhole}
use Rattle.inet_packet.specs.declared.packet.Packet.{Packet}
use Rattle.logical_flows.specs.Stages.{stage_table}
use Rattle.logical_flows.specs.declared.action.Action.{Action}
use Rattle.logical_flows.specs.declared.action.Action.TheVariants as a
use Rattle.logical_flows.specs.declared.stage.Pipeline.TheVariants.{Egress}
use Rattle.logical_flows.specs.declared.stage.Stage.TheVariants as stage
use Rattle.match_language.specs.declared.field.Direction.TheVariants.{ToLport}
use Rattle.nb_records.specs.Switches.{is_virtual, is_stateful, has_balancer}
use Rattle.nb_records.specs.declared.switch.SwitchPort.{SwitchPort}
use Rattle.net_model.specs.Exit.{exit_denial, security_out, sight_out, passage_out, judge_out, secure_out}
use Rattle.net_model.specs.Headers.{carries_ip4}
use Rattle.net_model.specs.Tracking.{is_tracked, pass, pass_if}
use Rattle.net_model.specs.Trail.{Trail, Lists, spot_of, unless, finally}
use Rattle.net_model.specs.Verdict.{Verdict, default, verdict_of}
use Rattle.ovn_base.specs.addresses.EtherAddress.{is_multicast_mac}
use Rattle.row_laws.specs.Copies.{Copy, Words}
use Rattle.row_laws.specs.StageActions.{track_out_actions}
use Rattle.row_laws.specs.StageLaws.{OfEachStage, TableLaw}
use Rattle.switch_engine.specs.Zones.{ZoneLists}
use Rattle.switch_engine.specs.declared.carried.Carried.{Carried}
use Rattle.tunnel_keys.specs.declared.owner.Identity.{Identity}
use Rattle.sim_laws.proofs.pipelines.Copies.{drops_so, reworded}
use Rattle.sim_laws.proofs.pipelines.Doings.{drop_does}
use Rattle.sim_laws.proofs.pipelines.Noting.{Stands, StandsBy, own_zone, Step, unless_step}
use Rattle.sim_laws.proofs.pipelines.Pieces.{finally_then, comes_then, comes_same}
use Rattle.sim_laws.proofs.pipelines.Registers.{still_at_first}
use Rattle.sim_laws.proofs.pipelines.StateBegins.{commit_step}
use Rattle.sim_laws.proofs.pipelines.StateStage.{tracked_step, untracked_step}
use Rattle.sim_laws.proofs.pipelines.Tables.{table_step}
use Rattle.sim_laws.proofs.pipelines.TrackJudge.{passing, at_port, unknown, track_step, judge_step}
use Rattle.sim_laws.specs.pipelines.Egress.{way_out, ComesOut, EgressLaw}
use Rattle.sim_laws.specs.pipelines.Pieces.{Piece, trail_with, ComesTo}
use Rattle.sim_laws.specs.pipelines.Standing.{Chassis, net_of, course_of, IsLaidOut}
use Rattle.sim_laws.specs.pipelines.WalkOn.{Comes}

module _ (s : Chassis) (laid : IsLaidOut s) (law : OfEachStage TableLaw) (first : Carried) (came : Identity) (o : SwitchPort) where
  -- ---- before each table

  abbrev verdict : Packet → Verdict
  verdict p = verdict_of (net_of s) o.switch ToLport (sight_out came o p)

  abbrev tracked : Packet → Bool
  tracked p = is_tracked (net_of s) o p

  abbrev Plain : Lists → Packet → ZoneLists → Carried → Type 0
  Plain lists p zones copy = Stands s Egress (stage_table stage.SwitchTrackOut) first (unknown o (sight_out came o p)) lists zones copy

  abbrev Tracked : Lists → Packet → ZoneLists → Carried → Type 0
  Tracked lists p zones copy = StandsBy s Egress (stage_table stage.SwitchAclOut) first (at_port o (sight_out came o p) lists default (tracked p)) lists zones copy

  abbrev Judged : Lists → Packet → ZoneLists → Carried → Type 0
  Judged lists p zones copy = StandsBy s Egress (stage_table stage.SwitchStateOut) first (at_port o (sight_out came o p) lists (verdict p) (tracked p)) lists zones copy

  -- the packet at its port, whatever was found out
  abbrev going_out : Packet → Words → Copy
  going_out p w = record { port = o; sight = sight_out came o p; words = w }

  -- its connection lets it pass
  pub record Passed (lists : Lists) (p : Packet) (zones : ZoneLists) (copy : Carried) : Type 0 where
    words : Words
    stands : Stands s Egress (stage_table stage.SwitchSecurityOut) first (going_out p words) lists zones copy

  -- ---- the pieces, each with the rest of the way

  abbrev Lands : Piece Packet → Lists → ZoneLists → Carried → Type 0
  Lands piece lists zones copy = Comes (course_of s) zones (copy ∷ []) (ComesTo s piece lists (ComesOut s first))

  abbrev security_piece : Packet → Piece Packet
  security_piece p rest t = finally (unless (security_out o p) (spot_of o) t p) rest

  abbrev state_piece : Packet → Piece Packet
  state_piece p rest t = finally (pass (passage_out s.scene came o p) t p) rest

  abbrev from_state : Packet → Piece Packet
  from_state p rest t = state_piece p (λ u q. security_piece q rest u) t

  abbrev exit_piece : Packet → Piece Packet
  exit_piece p rest t = finally (unless (exit_denial o) (spot_of o) t p) rest

  abbrev from_exit : Packet → Piece Packet
  from_exit p rest t = exit_piece p (λ u q. from_state q rest u) t

  -- ---- the stages, from the last to the first

  security_lands : (lists : Lists) (p : Packet) (zones : ZoneLists) (copy : Carried) → Passed lists p zones copy → Lands (security_piece p) lists zones copy
  security_lands lists p zones copy h =
      let c : Copy = going_out p h.words in
      let at = h.stands.stands in
      unless_step s (record { stage = stage.SwitchSecurityOut; way = Egress; first = first; c = c; lists = lists; zones = zones; copy = copy; here = h.stands; place = λ regs. refl }) (ComesOut s first)
      (record {
        in_table = refl;
        packet = at.packet;
        whole = subst IsWhole (sym at.packet) at.at_port.whole;
        within = at.numbers.within;
        still = record { passes = h.stands.still.passes; entry = h.stands.still.entry; registers = h.stands.still.registers };
        hold = at.hold;
      }) (security_out o p)
      (λ So does. table_step s laid stage.SwitchSecurityOut law.security_out laid.tables.security_out c lists zones copy at So does)

  module _ (lists : Lists) (p : Packet) (zones : ZoneLists) (copy : Carried) where
    abbrev here : Bool → Copy
    here b = at_port o (sight_out came o p) lists (verdict p) b

    passed : (b : Bool) (after : Lists) (q : Packet) (last : ZoneLists) (next : Carried)
        → Stands s Egress (stage_table stage.SwitchSecurityOut) first (reworded (here b) q (here b).words) after last next → Passed after q last next
    passed b after q last next h = record { words = (here b).words; stands = h }

    by_tracked : (b : Bool) → (b ≡ true → is_virtual o ≡ true) → StandsBy s Egress (stage_table stage.SwitchStateOut) first (here b) lists zones copy
        → Comes (course_of s) zones (copy ∷ []) (ComesTo s (λ rest t. finally (pass_if b (passage_out s.scene came o p) t p) rest) lists Passed)
    by_tracked false virtual h =
        untracked_step s laid stage.SwitchStateOut Egress ToLport first o (sight_out came o p) (verdict p) lists zones copy (λ regs. refl) Passed h (passed false) (a.Commit zone.Out)
        (λ So does. table_step s laid stage.SwitchStateOut law.state_out laid.tables.state_out (here false) lists zones copy h.here.stands So does)
    by_tracked true virtual h =
        tracked_step s laid stage.SwitchStateOut Egress ToLport first o (sight_out came o p) (verdict p) lists zones copy (λ regs. refl) Passed h (virtual refl) (passed true) (a.Commit zone.Out)
        (λ t is has plain step.
        commit_step s laid (record {
          before = record { stage = stage.SwitchStateOut; way = Egress; first = first; c = here true; lists = lists; zones = zones; copy = copy; here = h.here; place = λ regs. refl };
          has_zone = h.here.stands.zone (virtual refl);
          own = own_zone s h.here.stands (virtual refl);
          dir = ToLport;
          verdict = verdict p;
          Goes = Passed;
          so = passed true;
        }) t is has plain step)
        (λ So does. table_step s laid stage.SwitchStateOut law.state_out laid.tables.state_out (here true) lists zones copy h.here.stands So does)

    virtual_if : tracked p ≡ true → is_virtual o ≡ true
    virtual_if h = (and_parts (is_virtual o) (carries_ip4 p && (not (is_multicast_mac p.dst) && (is_stateful (net_of s) o.switch || has_balancer (net_of s) o.switch))) h).0

    state_lands : Judged lists p zones copy → Lands (from_state p) lists zones copy
    state_lands h = comes_then s (state_piece p) security_piece lists Passed (ComesOut s first) zones (copy ∷ []) (by_tracked (tracked p) virtual_if h) security_lands

  judge_lands : (lists : Lists) (p : Packet) (zones : ZoneLists) (copy : Carried) → Tracked lists p zones copy → Lands (from_state p) lists zones copy
  judge_lands lists p zones copy h =
      comes_then s (passing p) from_state lists Judged (ComesOut s first) zones (copy ∷ [])
      (judge_step s stage.SwitchAclOut Egress first o (sight_out came o p) lists zones copy (λ regs. refl) Judged (tracked p) h (verdict p) (λ next so. so)
      (λ So does. table_step s laid stage.SwitchAclOut law.acl_out laid.tables.acl_out (at_port o (sight_out came o p) lists default (tracked p)) lists zones copy h.here.stands So does))
      state_lands

  module _ (lists : Lists) (p : Packet) (zones : ZoneLists) (copy : Carried) (h : Plain lists p zones copy) where
    abbrev StepOf : List Action → Type 1
    StepOf actions = Step s (record { stage = stage.SwitchTrackOut; way = Egress; first = first; c = unknown o (sight_out came o p); lists = lists; zones = zones; copy = copy; here = h; place = λ regs. refl }) actions

    -- a port that is disabled lets nothing out; else the packet may be tracked
    by_denial : (d : Option Cause) → StepOf (track_out_actions d (tracked p)) → Comes (course_of s) zones (copy ∷ []) (ComesTo s (λ rest t. finally (unless d (spot_of o) t p) rest) lists Tracked)
    by_denial None step =
        track_step s stage.SwitchTrackOut Egress first o (sight_out came o p) lists zones copy (λ regs. refl) Tracked h (tracked p) (virtual_if lists p zones copy) (λ next so. so) step
    by_denial (Some why) step =
        let piece : Piece Packet = λ rest t. finally (unless (Some why) (spot_of o) t p) rest in
        let So = ComesTo s piece lists Tracked in
        step So (drop_does s zones copy So why (drops_so s h.stands (λ regs. refl) why piece lists lists Tracked zones h.stands.hold (λ rest choices ends. refl)))

    exit_lands : Lands (from_exit p) lists zones copy
    exit_lands =
        comes_then s (exit_piece p) from_state lists Tracked (ComesOut s first) zones (copy ∷ [])
        (by_denial (exit_denial o) (λ So does. table_step s laid stage.SwitchTrackOut law.track_out laid.tables.track_out (unknown o (sight_out came o p)) lists zones copy h.stands So does))
        judge_lands

  -- the pieces, one after another, are the way out
  same_way : (p : Packet) (rest : Trail → Packet → Trail) (t : Trail) → from_exit p rest t ≡ way_out s came o p rest t
  same_way p rest t =
      (λ k. finally (unless (exit_denial o) (spot_of o) t p) (λ u q. sym (finally_then (pass (passage_out s.scene came o q) u q) (secure_out o) rest) k))
      ∙ sym (finally_then (unless (exit_denial o) (spot_of o) t p) (judge_out s.scene came o) rest)

-- the law of the egress pipeline
pub egress : OfEachStage TableLaw → EgressLaw
egress law s laid came o p lists zones copy h =
    comes_same s (from_exit s laid law copy came o p) (way_out s came o p) lists (ComesOut s copy) (λ rest choices ends. same_way s laid law copy came o p rest (trail_with lists choices ends)) zones (copy ∷ [])
    (exit_lands s laid law copy came o lists p zones copy (record { stands = h; still = still_at_first copy }))
