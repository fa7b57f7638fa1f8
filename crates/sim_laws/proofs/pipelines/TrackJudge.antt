-- The stages that track a packet, and that keep what the rules say of it.
use Rattle.std.specs.Prelude.{◌≡◌, ◌≤◌, ℕ, Bool, true, false, cond, [], ◌∷◌, Option, Some, refl}
use Rattle.std.proofs.Common.{sym, ap, ◌∙◌, subst, arith}
use Rattle.std.proofs.Math.Dec.{leb as nat_le}
use Rattle.std.proofs.lemmas.Bool.{false≢true}
use Rattle.conn_table.specs.Connections.{ConnectionList}
use Rattle.conn_table.specs.Tracking.{Seen, seen, state_of}
use Rattle.inet_packet.specs.declared.packet.Packet.{Packet}
use Rattle.inet_packet.specs.declared.regs.Reg.TheVariants as reg
use Rattle.inet_packet.specs.declared.regs.Regs.{Regs}
use Rattle.logical_flows.specs.Stages.{stage_table}
use Rattle.logical_flows.specs.declared.action.Action.TheVariants as a
use Rattle.logical_flows.specs.declared.stage.Pipeline.{Pipeline}
use Rattle.logical_flows.specs.declared.stage.Stage.{Stage}
use Rattle.nb_records.specs.Switches.{is_virtual}
use Rattle.nb_records.specs.declared.switch.SwitchPort.{SwitchPort}
use Rattle.net_model.specs.Sights.{Sight}
use Rattle.net_model.specs.Trail.{Lists, of_port, list_of}
use Rattle.net_model.specs.Verdict.{Verdict, default, allow, allow_related, allow_stateless, reject, deny}
use Rattle.ovn_base.specs.declared.stages.TheConstants.{LOOKUP_TABLE}
use Rattle.row_laws.specs.Copies.{Copy, HaveWords, flag_number, verdict_code}
use Rattle.row_laws.specs.Passages.{is_seen_blocked}
use Rattle.row_laws.specs.StageActions.{track_actions, verdict_actions}
use Rattle.stage_rows.specs.Rows.{table_behind, go_on}
use Rattle.switch_engine.specs.Actions.{set_flag, gone_on}
use Rattle.switch_engine.specs.Tracking.{looked_up, looked_up_in, noted}
use Rattle.switch_engine.specs.Zones.{ZoneLists, zone_number}
use Rattle.switch_engine.specs.declared.carried.Carried.{Carried}
use Rattle.sim_laws.proofs.pipelines.Copies.{port_reg, goes_so, same_zone, stands_on}
use Rattle.sim_laws.proofs.pipelines.Doings.{find_does, set_does, with_reg}
use Rattle.sim_laws.proofs.pipelines.Noting.{Stands, StandsBy, BeforeStage, own_zone, found_words, found_code, state_small, blocked_code, blocked_bit, tracked_notes, tracked_flags, Step, Came, goes_step, stands_next}
use Rattle.sim_laws.proofs.pipelines.Registers.{or_one, or_stays, Notes, noted_in, still_noted, still_after}
use Rattle.sim_laws.proofs.pipelines.Seeing.{is_seen}
use Rattle.sim_laws.specs.pipelines.Pieces.{Piece, ComesTo}
use Rattle.sim_laws.specs.pipelines.Standing.{Chassis, zone_of, no_words}

-- what follows the piece in which a packet passes as it is
abbrev pub passing : Packet → Piece Packet
passing p rest t = rest t p

-- the packet at its port, with what was found out
abbrev pub at_port : SwitchPort → Sight → Lists → Verdict → Bool → Copy
at_port port sight lists v b = record { port = port; sight = sight; words = found_words v b (seen (list_of lists (of_port port.name)) sight.packet) }

abbrev pub unknown : SwitchPort → Sight → Copy
unknown port sight = record { port = port; sight = sight; words = no_words }

module _ (s : Chassis) (stage : Stage) (way : Pipeline) (first : Carried) (port : SwitchPort) (sight : Sight) (lists : Lists) (zones : ZoneLists) (copy : Carried)
    (place : (regs : Regs) → cond (nat_le (stage_table stage) LOOKUP_TABLE) regs.in_port regs.out_port ≡ port_reg way regs)
    (Goes : Lists → Packet → ZoneLists → Carried → Type 0) where
  -- ---- tracking

  module _ (h : Stands s way (stage_table stage) first (unknown port sight) lists zones copy) where
    abbrev sees : Seen
    sees = seen (list_of lists (of_port port.name)) sight.packet

    abbrev here : BeforeStage s
    here = record { stage = stage; way = way; first = first; c = unknown port sight; lists = lists; zones = zones; copy = copy; here = h; place = place }

    abbrev new_notes : Notes
    new_notes = tracked_notes copy.regs (state_of sees) (flag_number (is_seen_blocked sees))

    abbrev tracked_copy : Carried
    tracked_copy = gone_on (table_behind stage) (with_reg reg.Tracked 1 (noted (zone_number (zone_of way) copy.regs) (list_of lists (of_port port.name)) (state_of sees) copy))

    new_words : HaveWords (found_words default true sees) (noted_in new_notes copy.regs)
    new_words = record {
      tracked = or_one (set_flag 4 (flag_number (is_seen_blocked sees)) copy.regs.flags).0 2 1 refl;
      verdict = h.stands.at_port.words.verdict;
      finding = found_code sees;
      blocked = or_stays (set_flag 4 (flag_number (is_seen_blocked sees)) copy.regs.flags).0 2 2 refl ∙ blocked_bit copy.regs.flags (is_seen_blocked sees);
    }

    module _ (virtual : is_virtual port ≡ true) where
      new_regs : tracked_copy.regs ≡ noted_in new_notes copy.regs
      new_regs =
          let o = own_zone s h.stands virtual in
          ap (λ (k : ℕ). noted_in (tracked_notes copy.regs (state_of sees) k) copy.regs)
          (blocked_code (list_of lists (of_port port.name)) sight.packet sees (is_seen (list_of lists (of_port port.name)) o.good.zone.law sight.packet))

      tracked_stands : StandsBy s way (table_behind stage) first (at_port port sight lists default true) lists zones tracked_copy
      tracked_stands = record {
        here = record {
          stands = stands_on s h.stands new_notes refl (state_small (state_of sees)) (h.stands.numbers.within.within reg.Verdict) (found_words default true sees) new_words sight.packet h.stands.at_port.whole lists zones h.stands.hold
              (table_behind stage) tracked_copy refl h.stands.packet new_regs;
          still = still_after first copy tracked_copy h.still (still_noted new_notes copy tracked_copy refl new_regs refl (tracked_flags copy.regs.flags (is_seen_blocked sees)));
        };
        remembers = λ tracked.
            ap (λ (z : ℕ). Some (record { zone = z; state = state_of sees })) (sym (ap (λ (r : Regs). zone_number (zone_of way) r) new_regs ∙ same_zone way new_notes copy.regs));
      }

      looks_up : looked_up (zone_number (zone_of way) copy.regs) zones copy ≡ noted (zone_number (zone_of way) copy.regs) (list_of lists (of_port port.name)) (state_of sees) copy
      looks_up =
          let o = own_zone s h.stands virtual in
          ap (λ (l : Option ConnectionList). looked_up_in (zone_number (zone_of way) copy.regs) l copy) o.held
          ∙ ap (λ (q : Packet). noted (zone_number (zone_of way) copy.regs) (list_of lists (of_port port.name)) (state_of (seen (list_of lists (of_port port.name)) q)) copy) h.stands.packet

    pub track_step : (b : Bool) → (b ≡ true → is_virtual port ≡ true)
        → ((new : Carried) → StandsBy s way (table_behind stage) first (at_port port sight lists default b) lists zones new → Goes lists sight.packet zones new)
        → Step s here (track_actions stage (zone_of way) b)
        → Came s here (passing sight.packet) Goes
    track_step false virtual so step =
        goes_step s here Goes
        (so (gone_on (table_behind stage) copy) (record { here = stands_next s here (table_behind stage); remembers = λ e. absurd (false≢true e) })) step
    track_step true virtual so step =
        let So = ComesTo s (passing sight.packet) lists Goes in
        step So (find_does s zones copy So (zone_of way) (table_behind stage)
        (subst (λ (k : Carried). So [] zones (gone_on (table_behind stage) (with_reg reg.Tracked 1 k) ∷ [])) (sym (looks_up (virtual refl)))
        (goes_so s (passing sight.packet) lists lists Goes zones sight.packet tracked_copy (so tracked_copy (tracked_stands (virtual refl))) (λ rest choices ends. refl))))

  -- ---- judging

  module _ (b : Bool) (h : StandsBy s way (stage_table stage) first (at_port port sight lists default b) lists zones copy) where
    abbrev judged_here : BeforeStage s
    judged_here = record { stage = stage; way = way; first = first; c = at_port port sight lists default b; lists = lists; zones = zones; copy = copy; here = h.here; place = place }

    abbrev judged_notes : Verdict → Notes
    judged_notes v = record { out_port = copy.regs.out_port; state = copy.regs.state; verdict = verdict_code v; flags = copy.regs.flags }

    abbrev judged_copy : Verdict → Carried
    judged_copy v = gone_on (table_behind stage) (with_reg reg.Verdict (verdict_code v) copy)

    verdict_small : (v : Verdict) → verdict_code v ≤ 7
    verdict_small default = omega arith
    verdict_small allow = omega arith
    verdict_small allow_related = omega arith
    verdict_small allow_stateless = omega arith
    verdict_small reject = omega arith
    verdict_small deny = omega arith

    judged_stands : (v : Verdict) → StandsBy s way (table_behind stage) first (at_port port sight lists v b) lists zones (judged_copy v)
    judged_stands v =
        let w = h.here.stands.at_port.words in
        record {
          here = record {
            stands = stands_on s h.here.stands (judged_notes v) refl (h.here.stands.numbers.within.within reg.State) (verdict_small v) (at_port port sight lists v b).words
                (record { tracked = w.tracked; verdict = refl; finding = w.finding; blocked = w.blocked }) sight.packet h.here.stands.at_port.whole lists zones h.here.stands.hold
                (table_behind stage) (judged_copy v) refl h.here.stands.packet refl;
            still = still_after first copy (judged_copy v) h.here.still (still_noted (judged_notes v) copy (judged_copy v) refl refl refl (record { loopback = refl; own = refl; arrived = refl }));
          };
          remembers = λ tracked.
              h.remembers tracked ∙ ap (λ (z : ℕ). Some (record { zone = z; state = state_of (seen (list_of lists (of_port port.name)) sight.packet) })) (sym (same_zone way (judged_notes v) copy.regs));
        }

    abbrev Judged : Verdict → Type 0
    Judged v = (new : Carried) → StandsBy s way (table_behind stage) first (at_port port sight lists v b) lists zones new → Goes lists sight.packet zones new

    abbrev CameBy : Type 0
    CameBy = Came s judged_here (passing sight.packet) Goes

    set_step : (v : Verdict) → Judged v → Step s judged_here (a.Set reg.Verdict (verdict_code v) ∷ go_on stage ∷ []) → CameBy
    set_step v so step =
        let So = ComesTo s (passing sight.packet) lists Goes in
        step So (set_does s zones copy So reg.Verdict (verdict_code v) (table_behind stage)
        (goes_so s (passing sight.packet) lists lists Goes zones sight.packet (judged_copy v) (so (judged_copy v) (judged_stands v)) (λ rest choices ends. refl)))

    pub judge_step : (v : Verdict) → Judged v → Step s judged_here (verdict_actions stage v) → CameBy
    judge_step default so step =
        goes_step s judged_here Goes
        (so (gone_on (table_behind stage) copy) (record { here = stands_next s judged_here (table_behind stage); remembers = h.remembers })) step
    judge_step allow so step = set_step allow so step
    judge_step allow_related so step = set_step allow_related so step
    judge_step allow_stateless so step = set_step allow_stateless so step
    judge_step reject so step = set_step reject so step
    judge_step deny so step = set_step deny so step
