-- The stages in which a packet is answered, or finds its target.
use Rattle.std.specs.Prelude.{◌≡◌, ◌≤◌, ◌&&◌, ℕ, List, [], ◌∷◌, Option, Some, None, option_map, refl}
use Rattle.std.specs.Int.{bit_at}
use Rattle.std.specs.List.{filter}
use Rattle.std.proofs.Common.{sym, ◌∙◌, subst, arith}
use Rattle.flow_lowering.specs.LoweredFlows.{live_port_key}
use Rattle.flow_lowering.specs.Registers.{reg_number, HasRegistersInRange}
use Rattle.flow_table.specs.declared.flow.Cause.TheVariants as cause
use Rattle.inet_packet.specs.Rewrites.{with_arp_reply}
use Rattle.inet_packet.specs.Whole.{IsWhole}
use Rattle.inet_packet.specs.declared.packet.Packet.{Packet}
use Rattle.inet_packet.specs.declared.regs.Reg.TheVariants as reg
use Rattle.inet_packet.specs.declared.regs.RegFlags.{RegFlags}
use Rattle.inet_packet.specs.declared.regs.Regs.{Regs}
use Rattle.logical_flows.specs.Stages.{stage_table}
use Rattle.logical_flows.specs.declared.action.Action.{Action}
use Rattle.logical_flows.specs.declared.stage.Pipeline.TheVariants.{Ingress}
use Rattle.logical_flows.specs.declared.stage.Stage.TheVariants as stage
use Rattle.nb_records.specs.Switches.{enabled_ports, is_virtual, mac_of_ip, first_answer}
use Rattle.nb_records.specs.declared.switch.SwitchPort.{SwitchPort}
use Rattle.net_model.specs.Entry.{sight_in}
use Rattle.net_model.specs.Headers.{asked_ip}
use Rattle.net_model.specs.Targets.{Target, answer_from, to_one, to_group, to_nobody, answer_target, is_other, target_of}
use Rattle.net_model.specs.Trail.{Lists, given_or}
use Rattle.net_model.specs.declared.crossing.Group.TheVariants.{Flood, Unknown}
use Rattle.ovn_base.specs.declared.address.Ip4.{Ip4}
use Rattle.ovn_base.specs.declared.address.Mac.{Mac}
use Rattle.ovn_base.specs.declared.limits.TheConstants.{FLOOD_KEY, UNKNOWN_KEY}
use Rattle.row_laws.proofs.records.SwitchPorts.{enabled_is}
use Rattle.row_laws.specs.Copies.{Copy, Words}
use Rattle.row_laws.specs.Numbers.{IsPortKey}
use Rattle.row_laws.specs.StageActions.{answer_or_pass, found_target, target_actions}
use Rattle.row_laws.specs.StageLaws.{OfEachStage, TableLaw}
use Rattle.switch_engine.specs.Actions.{set_flag, gone_on}
use Rattle.switch_engine.specs.Headers.{arp_answered}
use Rattle.switch_engine.specs.Zones.{ZoneLists}
use Rattle.switch_engine.specs.declared.carried.Carried.{Carried}
use Rattle.sim_laws.proofs.pipelines.Copies.{own_key, drops_so, goes_so}
use Rattle.sim_laws.proofs.pipelines.Doings.{out_does, set_does, answer_does, drop_does, answered, with_reg}
use Rattle.sim_laws.proofs.pipelines.Noting.{Stands, BeforeStage, Step, goes_step, stands_next}
use Rattle.sim_laws.proofs.pipelines.Pieces.{comes_then}
use Rattle.sim_laws.proofs.pipelines.Registers.{or_one, or_stays, noted_within, still_after, still_for_target, still_aimed}
use Rattle.sim_laws.proofs.pipelines.Tables.{table_step}
use Rattle.sim_laws.proofs.pipelines.TargetKeys.{port_live, key_small, IsFoundTarget, found_so, IsRequest, asked_so, answered_is, answer_whole}
use Rattle.sim_laws.specs.pipelines.Ingress.{Aimed, to_target, sent_as, IsNumberOf, loopback_for, GoesTo}
use Rattle.sim_laws.specs.pipelines.Pieces.{Piece, ComesTo}
use Rattle.sim_laws.specs.pipelines.Standing.{Chassis, net_of, course_of, IsLaidOut, is_for_target, IsStill}
use Rattle.sim_laws.specs.pipelines.WalkOn.{Comes}

-- the packet in the switch, whatever was found out
abbrev pub in_switch : SwitchPort → Packet → Words → Copy
in_switch i p w = record { port = i; sight = sight_in i p; words = w }

module _ (s : Chassis) (laid : IsLaidOut s) (law : OfEachStage TableLaw) (first : Carried) (i : SwitchPort) (p : Packet) (w : Words) (lists : Lists) where
  abbrev Goes : Lists → Aimed → ZoneLists → Carried → Type 0
  Goes = GoesTo s i first

  -- it is the packet's target
  abbrev IsTarget : Target → Type 0
  IsTarget target = target ≡ target_of (net_of s) i p

  abbrev pub target_piece : Target → Piece Aimed
  target_piece target rest t = to_target target i p rest t

  -- ---- before table 32

  module _ (table : ℕ) (zones : ZoneLists) (copy : Carried) (h : Stands s Ingress table first (in_switch i p w) lists zones copy) where
    -- the registers with a target
    abbrev aimed_regs : ℕ → RegFlags → Regs
    aimed_regs out flags = record copy.regs { out_port = out; flags = flags }

    aimed_within : (out : ℕ) (flags : RegFlags) → out ≤ 0xffff → HasRegistersInRange (aimed_regs out flags)
    aimed_within out flags small =
        noted_within (record { out_port = out; state = copy.regs.state; verdict = copy.regs.verdict; flags = flags }) copy.regs h.stands.numbers.within small (h.stands.numbers.within.within reg.State) (h.stands.numbers.within.within reg.Verdict)

    aimed_still : (out : ℕ) (flags : RegFlags) (next : Carried) → next.passes ≡ copy.passes → next.regs ≡ aimed_regs out flags → bit_at flags.0 3 ≡ bit_at copy.regs.flags.0 3 → bit_at flags.0 4 ≡ bit_at copy.regs.flags.0 4
        → IsStill is_for_target first next
    aimed_still out flags next passes regs own arrived = still_after first copy next (still_for_target first copy h.still) (still_aimed out flags copy next passes regs own arrived)

    -- it goes to a port or a group, and no answer is given
    sent_so : (out : ℕ) → out ≤ 0xffff → (target : Target) → IsTarget target → sent_as target p ≡ p → IsNumberOf s.keys i target out → loopback_for target (reg_number reg.Loopback first.regs) ≡ reg_number reg.Loopback first.regs
        → Goes lists (target, p) zones (gone_on 32 (with_reg reg.OutPort out copy))
    sent_so out small target aim same to stays = record {
      in_table = refl;
      target = aim;
      packet = h.stands.packet ∙ sym same;
      whole = subst IsWhole (sym h.stands.packet) h.stands.at_port.whole;
      to = to;
      loopback = h.still.registers reg.Loopback refl ∙ sym stays;
      within = aimed_within out copy.regs.flags small;
      still = aimed_still out copy.regs.flags (gone_on 32 (with_reg reg.OutPort out copy)) refl refl refl refl;
      hold = h.stands.hold;
    }

    -- an answer goes back
    answer_so : (mac : Mac) (ip : Ip4) → IsRequest p ip → IsTarget (answer_from mac ip) → Goes lists (answer_from mac ip, p) zones (gone_on 32 (answered s zones copy (ComesTo s (target_piece (answer_from mac ip)) lists Goes) mac ip))
    answer_so mac ip request aim =
        let next : Carried = gone_on 32 (answered s zones copy (ComesTo s (target_piece (answer_from mac ip)) lists Goes) mac ip) in
        let flags : RegFlags = set_flag 1 1 copy.regs.flags in
        let packet : next.packet ≡ with_arp_reply mac ip p = subst (λ (q : Packet). arp_answered mac ip q ≡ with_arp_reply mac ip p) (sym h.stands.packet) (answered_is mac ip p request.arp) in
        record {
          in_table = refl;
          target = aim;
          packet = packet;
          whole = subst IsWhole (sym packet) (answer_whole mac ip p h.stands.at_port.whole request);
          to = own_key s.keys s.sets (net_of s) (in_switch i p w) copy.regs Ingress h.stands.at_port h.stands.numbers;
          loopback = or_one copy.regs.flags.0 1 0 refl;
          within = aimed_within copy.regs.in_port flags (h.stands.numbers.within.within reg.InPort);
          still = aimed_still copy.regs.in_port flags next refl refl (or_stays copy.regs.flags.0 1 3 refl) (or_stays copy.regs.flags.0 1 4 refl);
          hold = h.stands.hold;
        }

  -- ---- looking up

  module _ (zones : ZoneLists) (copy : Carried) (h : Stands s Ingress (stage_table stage.SwitchLookup) first (in_switch i p w) lists zones copy) where
    abbrev here : BeforeStage s
    here = record { stage = stage.SwitchLookup; way = Ingress; first = first; c = in_switch i p w; lists = lists; zones = zones; copy = copy; here = h; place = λ regs. refl }

    abbrev Lands : Target → Type 0
    Lands target = Comes (course_of s) zones (copy ∷ []) (ComesTo s (target_piece target) lists Goes)

    to_so : (target : Target) → IsTarget target → IsFoundTarget (net_of s) i.switch target → Step s here (target_actions target) → Lands target
    to_so (answer_from mac ip) aim is step = absurd is
    to_so (to_one q) aim is step =
        let e = enabled_is (net_of s) laid.valid i.switch q is in
        let key = subst (λ (d : List ℕ). IsPortKey s.keys d q.name (live_port_key s.keys q.name)) e.on (port_live (net_of s) s.keys laid.live q e.there) in
        let small = key_small s.keys laid.tables.lookup.can_lower.hold i.switch q.name (live_port_key s.keys q.name) key in
        let So = ComesTo s (target_piece (to_one q)) lists Goes in
        step So (out_does s zones copy So q.name 32
        (goes_so s (target_piece (to_one q)) lists lists Goes zones (to_one q, p) (gone_on 32 (with_reg reg.OutPort (live_port_key s.keys q.name) copy))
        (sent_so (stage_table stage.SwitchLookup) zones copy h (live_port_key s.keys q.name) small (to_one q) aim refl key refl) (λ rest choices ends. refl)))
    to_so (to_group Flood) aim is step =
        let So = ComesTo s (target_piece (to_group Flood)) lists Goes in
        step So (set_does s zones copy So reg.OutPort FLOOD_KEY 32
        (goes_so s (target_piece (to_group Flood)) lists lists Goes zones (to_group Flood, p) (gone_on 32 (with_reg reg.OutPort FLOOD_KEY copy))
        (sent_so (stage_table stage.SwitchLookup) zones copy h FLOOD_KEY (omega arith) (to_group Flood) aim refl refl refl) (λ rest choices ends. refl)))
    to_so (to_group Unknown) aim is step =
        let So = ComesTo s (target_piece (to_group Unknown)) lists Goes in
        step So (set_does s zones copy So reg.OutPort UNKNOWN_KEY 32
        (goes_so s (target_piece (to_group Unknown)) lists lists Goes zones (to_group Unknown, p) (gone_on 32 (with_reg reg.OutPort UNKNOWN_KEY copy))
        (sent_so (stage_table stage.SwitchLookup) zones copy h UNKNOWN_KEY (omega arith) (to_group Unknown) aim refl refl refl) (λ rest choices ends. refl)))
    to_so to_nobody aim is step =
        let So = ComesTo s (target_piece to_nobody) lists Goes in
        step So (drop_does s zones copy So cause.UnknownAddress (drops_so s h.stands (λ regs. refl) cause.UnknownAddress (target_piece to_nobody) lists lists Goes zones h.stands.hold (λ rest choices ends. refl)))

    pub looks_up : IsTarget (found_target (net_of s) i.switch p) → Lands (found_target (net_of s) i.switch p)
    looks_up aim =
        to_so (found_target (net_of s) i.switch p) aim (found_so (net_of s) i.switch p)
        (λ So does. table_step s laid stage.SwitchLookup law.lookup laid.tables.lookup (in_switch i p w) lists zones copy h.stands So does)

  -- ---- answering

  module _ (zones : ZoneLists) (copy : Carried) (h : Stands s Ingress (stage_table stage.SwitchArp) first (in_switch i p w) lists zones copy) where
    abbrev answer_here : BeforeStage s
    answer_here = record { stage = stage.SwitchArp; way = Ingress; first = first; c = in_switch i p w; lists = lists; zones = zones; copy = copy; here = h; place = λ regs. refl }

    abbrev AnswerLands : Target → Type 0
    AnswerLands target = Comes (course_of s) zones (copy ∷ []) (ComesTo s (target_piece target) lists Goes)

    abbrev StepOf : List Action → Type 1
    StepOf actions = Step s answer_here actions

    passes_so : IsTarget (found_target (net_of s) i.switch p) → StepOf (answer_or_pass None) → AnswerLands (given_or None (found_target (net_of s) i.switch p))
    passes_so aim step =
        let Then : Lists → Packet → ZoneLists → Carried → Type 0 = λ after q last next. (after ≡ lists) × Stands s Ingress (stage_table stage.SwitchLookup) first (in_switch i p w) lists last next in
        comes_then s (λ rest t. rest t p) (λ q. target_piece (found_target (net_of s) i.switch p)) lists Then Goes zones (copy ∷ [])
        (goes_step s answer_here Then
        (refl, stands_next s answer_here (stage_table stage.SwitchLookup)) step)
        (λ after q last next goes.
        subst (λ (l : Lists). Comes (course_of s) last (next ∷ []) (ComesTo s (target_piece (found_target (net_of s) i.switch p)) l Goes)) (sym goes.0) (looks_up last next goes.1 aim))

    answers_so : (ip : Ip4) → IsRequest p ip → (o : Option Mac) → IsTarget (given_or (option_map (λ mac. answer_from mac ip) o) (found_target (net_of s) i.switch p)) → StepOf (answer_or_pass (option_map (λ mac. answer_from mac ip) o)) → AnswerLands (given_or (option_map (λ mac. answer_from mac ip) o) (found_target (net_of s) i.switch p))
    answers_so ip request None aim step = passes_so aim step
    answers_so ip request (Some mac) aim step =
        let So = ComesTo s (target_piece (answer_from mac ip)) lists Goes in
        step So (answer_does s zones copy So mac ip 32
        (goes_so s (target_piece (answer_from mac ip)) lists lists Goes zones (answer_from mac ip, p) (gone_on 32 (answered s zones copy So mac ip))
        (answer_so (stage_table stage.SwitchArp) zones copy h mac ip request aim) (λ rest choices ends. refl)))

    by_asked : (o : Option Ip4) → asked_ip p ≡ o → IsTarget (given_or (answer_target (net_of s) i o) (found_target (net_of s) i.switch p)) → StepOf (answer_or_pass (answer_target (net_of s) i o)) → AnswerLands (given_or (answer_target (net_of s) i o) (found_target (net_of s) i.switch p))
    by_asked None is aim step = passes_so aim step
    by_asked (Some ip) is aim step =
        answers_so ip (asked_so p h.stands.at_port.whole ip is) (first_answer (mac_of_ip ip) (filter (λ q. is_virtual q && is_other i q) (enabled_ports (net_of s) i.switch))) aim step

    -- the packet gets the target that the network has for it
    pub gets_target : AnswerLands (target_of (net_of s) i p)
    gets_target =
        by_asked (asked_ip p) refl refl (λ So does. table_step s laid stage.SwitchArp law.arp laid.tables.arp (in_switch i p w) lists zones copy h.stands So does)
