-- The stages of state, for any packet.
use Rattle.std.specs.Prelude.{◌≡◌, Bool, true, false, cond, List, [], ◌∷◌, Option, Some, None, refl}
use Rattle.std.proofs.Common.{ap, ◌∙◌, subst}
use Rattle.std.proofs.Math.Dec.{leb as nat_le}
use Rattle.conn_table.specs.Tracking.{Seen, forward, reply, invalid, new, seen, state_of}
use Rattle.conn_table.specs.Tuples.{tuple_of, is_echo_reply}
use Rattle.conn_table.specs.declared.tuple.Tuple.{Tuple}
use Rattle.flow_table.specs.declared.flow.Cause.{Cause}
use Rattle.flow_table.specs.declared.flow.Cause.TheVariants as cause
use Rattle.inet_packet.specs.declared.packet.Packet.{Packet}
use Rattle.inet_packet.specs.declared.regs.Regs.{Regs}
use Rattle.logical_flows.specs.Stages.{stage_table}
use Rattle.logical_flows.specs.declared.action.Action.{Action}
use Rattle.logical_flows.specs.declared.stage.Pipeline.{Pipeline}
use Rattle.logical_flows.specs.declared.stage.Stage.{Stage}
use Rattle.match_language.specs.declared.field.Direction.{Direction}
use Rattle.nb_records.specs.Switches.{is_virtual, is_stateful}
use Rattle.nb_records.specs.declared.switch.SwitchPort.{SwitchPort}
use Rattle.net_model.specs.Sights.{Sight}
use Rattle.net_model.specs.Tracking.{Passage, begin, is_stateless, denial, take, take_new, track_unless, pass_if}
use Rattle.net_model.specs.Trail.{Lists, of_port, list_of, spot_of, unless, finally}
use Rattle.net_model.specs.Verdict.{Verdict}
use Rattle.ovn_base.specs.declared.stages.TheConstants.{LOOKUP_TABLE}
use Rattle.row_laws.specs.Copies.{Copy}
use Rattle.row_laws.specs.Passages.{finding_of, is_seen_blocked}
use Rattle.row_laws.specs.StageActions.{invalid_cause, reply_actions, new_actions, found_actions, state_actions}
use Rattle.stage_rows.specs.Rows.{table_behind, go_on}
use Rattle.switch_engine.specs.Actions.{gone_on}
use Rattle.switch_engine.specs.Zones.{ZoneLists, zone_number}
use Rattle.switch_engine.specs.declared.carried.Carried.{Carried}
use Rattle.sim_laws.proofs.pipelines.Copies.{port_reg, drops_so, reworded}
use Rattle.sim_laws.proofs.pipelines.Doings.{drop_does}
use Rattle.sim_laws.proofs.pipelines.Noting.{Stands, StandsBy, BeforeStage, own_zone, found_words, Step, Came, goes_step, unless_step, stands_next}
use Rattle.sim_laws.proofs.pipelines.Pieces.{comes_same}
use Rattle.sim_laws.proofs.pipelines.Seeing.{IsSeen, is_seen}
use Rattle.sim_laws.proofs.pipelines.StateCarried.{BeforeState, reply_step, forward_step}
use Rattle.sim_laws.proofs.pipelines.TrackJudge.{at_port}
use Rattle.sim_laws.specs.pipelines.Pieces.{Piece, trail_with, ComesTo}
use Rattle.sim_laws.specs.pipelines.Standing.{Chassis, net_of, course_of, IsLaidOut, zone_of}
use Rattle.sim_laws.specs.pipelines.WalkOn.{Comes}
use Rattle.sim_laws.specs.routers.TranslatingWords.{Bring}

-- where what is neither a connection's nor begins one is dropped
cause_same : (b : Bool) (v : Verdict) → invalid_cause b v ≡ cond b (Some cause.Invalid) (denial v)
cause_same true v = refl
cause_same false v = refl

module _ (s : Chassis) (laid : IsLaidOut s) (stage : Stage) (way : Pipeline) (dir : Direction) (first : Carried) (port : SwitchPort) (sight : Sight) (v : Verdict) (lists : Lists) (zones : ZoneLists) (copy : Carried)
    (place : (regs : Regs) → cond (nat_le (stage_table stage) LOOKUP_TABLE) regs.in_port regs.out_port ≡ port_reg way regs)
    (Goes : Lists → Packet → ZoneLists → Carried → Type 0) where
  -- the packet passes the port
  abbrev pub passes_by : Passage
  passes_by = record { net = net_of s; now = s.scene.now; way = dir; port = port; verdict = v }

  abbrev pub by_words : Bool → Copy
  by_words b = at_port port sight lists v b

  -- how the rest of the way begins
  abbrev pub GoesOn : Bool → Type 0
  GoesOn b = (after : Lists) (q : Packet) (last : ZoneLists) (next : Carried) → Stands s way (table_behind stage) first (reworded (by_words b) q (by_words b).words) after last next → Goes after q last next

  abbrev pub sees : Seen
  sees = seen (list_of lists (of_port port.name)) sight.packet

  -- ---- a packet that is tracked

  module _ (h : StandsBy s way (stage_table stage) first (by_words true) lists zones copy) (virtual : is_virtual port ≡ true) (so : GoesOn true) (begins : Action) where
    abbrev here : BeforeStage s
    here = record { stage = stage; way = way; first = first; c = by_words true; lists = lists; zones = zones; copy = copy; here = h.here; place = place }

    abbrev in_state : BeforeState s
    in_state = record { before = here; has_zone = h.here.stands.zone virtual; own = own_zone s h.here.stands virtual; dir = dir; verdict = v; Goes = Goes; so = so }

    abbrev StepOf : List Action → Type 1
    StepOf actions = Step s here actions

    abbrev CameBy : Piece Packet → Type 0
    CameBy piece = Came s here piece Goes

    here_on : Goes lists sight.packet zones (gone_on (table_behind stage) copy)
    here_on = so lists sight.packet zones (gone_on (table_behind stage) copy) (stands_next s here (table_behind stage))

    -- how a connection begins
    abbrev pub Begins : Type 1
    Begins = (t : Tuple) → sees ≡ new t → tuple_of sight.packet ≡ Some t → is_echo_reply t.protocol ≡ false → StepOf (begins ∷ go_on stage ∷ []) → CameBy (λ rest u. finally (begin dir passes_by t u sight.packet) rest)

    abbrev take_piece : Seen → Piece Packet
    take_piece x rest t = finally (take passes_by x t sight.packet) rest

    new_step : Begins → (t : Tuple) → sees ≡ new t → tuple_of sight.packet ≡ Some t → is_echo_reply t.protocol ≡ false → (o : Option Cause) → StepOf (new_actions stage begins o)
        → CameBy (λ rest u. finally (take_new o passes_by t u sight.packet) rest)
    new_step begun t is has plain None step = begun t is has plain step
    new_step begun t is has plain (Some why) step =
        let piece : Piece Packet = λ rest u. finally (take_new (Some why) passes_by t u sight.packet) rest in
        let So = ComesTo s piece lists Goes in
        step So (drop_does s zones copy So why (drops_so s h.here.stands place why piece lists lists Goes zones h.here.stands.hold (λ rest choices ends. refl)))

    remembered : (x : Seen) → sees ≡ x → copy.found ≡ Some (record { zone = zone_number (zone_of way) copy.regs; state = state_of x })
    remembered x is = h.remembers refl ∙ ap (λ (y : Seen). Some (record { zone = zone_number (zone_of way) copy.regs; state = state_of y })) is

    is_such : (x : Seen) → sees ≡ x → IsSeen (list_of lists (of_port port.name)) (tuple_of sight.packet) x
    is_such x is = subst (IsSeen (list_of lists (of_port port.name)) (tuple_of sight.packet)) is (is_seen (list_of lists (of_port port.name)) in_state.own.good.zone.law sight.packet)

    by_seen : Begins → (x : Seen) → sees ≡ x → StepOf (found_actions stage (is_stateful (net_of s) port.switch) begins (found_words v true sees) (finding_of x)) → CameBy (take_piece x)
    by_seen begun invalid is step =
        comes_same s (λ rest t. finally (unless (invalid_cause (is_stateful (net_of s) port.switch) v) (spot_of port) t sight.packet) rest) (take_piece invalid) lists Goes
        (λ rest choices ends. ap (λ (o : Option Cause). finally (unless o (spot_of port) (trail_with lists choices ends) sight.packet) rest) (cause_same (is_stateful (net_of s) port.switch) v)) zones (copy ∷ [])
        (unless_step s here Goes here_on (invalid_cause (is_stateful (net_of s) port.switch) v) step)
    by_seen begun (reply e) is step =
        let x = is_such (reply e) is in
        reply_step s laid in_state e x.0 x.1 (remembered (reply e) is) e.blocked
        (λ So. subst (λ (b : Bool). Bring s (reply_actions stage b) zones copy So → Comes (course_of s) zones (copy ∷ []) So) (ap is_seen_blocked is) (step So))
    by_seen begun (forward e) is step =
        let x = is_such (forward e) is in
        forward_step s laid in_state e x.0 x.1 (remembered (forward e) is) (denial v) step
    by_seen begun (new t) is step =
        let x = is_such (new t) is in
        new_step begun t is x.0 x.1 (denial v) step

    by_stateless : Begins → (b : Bool) → StepOf (cond b (go_on stage ∷ []) (found_actions stage (is_stateful (net_of s) port.switch) begins (found_words v true sees) (finding_of sees)))
        → CameBy (λ rest t. finally (track_unless b passes_by t sight.packet) rest)
    by_stateless begun true step = goes_step s here Goes here_on step
    by_stateless begun false step =
        comes_same s (take_piece sees) (λ rest t. finally (track_unless false passes_by t sight.packet) rest) lists Goes (λ rest choices ends. refl) zones (copy ∷ []) (by_seen begun sees refl step)

    pub tracked_step : Begins → StepOf (state_actions stage (is_stateful (net_of s) port.switch) begins (found_words v true sees)) → CameBy (λ rest t. finally (pass_if true passes_by t sight.packet) rest)
    tracked_step begun step = by_stateless begun (is_stateless v) step

  -- ---- a packet that is not

  module _ (h : StandsBy s way (stage_table stage) first (by_words false) lists zones copy) (so : GoesOn false) (begins : Action) where
    abbrev untracked_here : BeforeStage s
    untracked_here = record { stage = stage; way = way; first = first; c = by_words false; lists = lists; zones = zones; copy = copy; here = h.here; place = place }

    pub untracked_step : Step s untracked_here (state_actions stage (is_stateful (net_of s) port.switch) begins (found_words v false sees))
        → Came s untracked_here (λ rest t. finally (pass_if false passes_by t sight.packet) rest) Goes
    untracked_step step =
        unless_step s untracked_here Goes
        (so lists sight.packet zones (gone_on (table_behind stage) copy) (stands_next s untracked_here (table_behind stage)))
        (denial v) step
