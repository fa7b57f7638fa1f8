-- The rows of rules come out: each verdict by what the rules say, and the rest by computing.
use Rattle.std.specs.Prelude.{◌≡◌, ℕ, List, [], ◌∷◌, ◌++◌, None, true, map, codes}
use Rattle.std.proofs.Common.{refl}
use Rattle.flow_table.specs.declared.flow.Cause.{Cause}
use Rattle.flow_table.specs.declared.flow.Cause.TheVariants as cause
use Rattle.inet_packet.specs.Frame.{frame_of, ip4_header}
use Rattle.match_cubes.specs.Holds.{stands_in}
use Rattle.match_cubes.specs.Points.{points}
use Rattle.match_language.specs.declared.field.Direction.TheVariants.{FromLport, ToLport}
use Rattle.nb_records.specs.declared.rule.RuleAction.TheVariants as action
use Rattle.nb_records.specs.declared.switch.PortAddress.{PortAddress}
use Rattle.nb_records.specs.declared.switch.PortKind.TheVariants as port_kind
use Rattle.nb_records.specs.declared.switch.SwitchPort.{SwitchPort}
use Rattle.net_model.specs.Entry.{sight_in}
use Rattle.net_model.specs.Exit.{sight_out}
use Rattle.net_model.specs.Journey.{ended_journey}
use Rattle.net_model.specs.State.{State, empty, finished}
use Rattle.net_model.specs.Verdict.{default, allow, allow_related, deny}
use Rattle.ovn_base.specs.declared.name.Name.{Name}
use Rattle.tunnel_keys.specs.declared.owner.Identity.{Identity}
use Rattle.model_rows.specs.Frames.{AreFramesOf, hex, packet}
use Rattle.model_rows.specs.Play.{RowEvent, edited, bound, unbound, chassis_added, chassis_removed, passed, RowLine, out, drop, to_one, Told, wanted, ComesOut, all_told, all_wanted}
use Rattle.model_rows.specs.Records.{ether, redo_rule}
use Rattle.model_rows.specs.Precedence as precedence
use Rattle.model_rows.specs.Rules as row
use Rattle.model_rows.specs.Switch.{there, back, f, u, v}
use Rattle.model_rows.proofs.Steps.{Tells, quiet_after, journey_in, journey_out, enters, arrives, binds, unbinds, chassis_comes, chassis_goes, edits, passes, ends}
use Rattle.model_rows.proofs.Verdicts.{equal_say, exit_say, lower_say, reject_say, related_say, turned_say, alone_say, wide_say, group_say}

pub frames : AreFramesOf row.rule_frames
unfolding AreFramesOf frame_of ip4_header
frames = refl {a = map hex row.rule_frames}

pub equal_priority_rules : ComesOut row.equal_priority_rules
unfolding ComesOut all_told frame_of ip4_header stands_in points
equal_priority_rules = rw (equal_say) (refl {a = all_wanted row.equal_priority_rules})

-- ---- the two ports

abbrev switch_0 : Identity
switch_0 = record { name = codes "s0"; birth = record { 0 = 1 } }

abbrev port_1 : Identity
port_1 = record { name = codes "p1"; birth = record { 0 = 2 } }

abbrev port_2 : Identity
port_2 = record { name = codes "p2"; birth = record { 0 = 3 } }

abbrev virtual_port : Identity → PortAddress → SwitchPort
virtual_port id address = record { name = id.name; birth = id.birth; switch = codes "s0"; kind = port_kind.Virtual; router_port = None; addresses = address ∷ []; port_security = []; enabled = true }

abbrev p1 : SwitchPort
p1 = virtual_port port_1 (ether 0x0a0000000001 0x0a000001)

abbrev p2 : SwitchPort
p2 = virtual_port port_2 (ether 0x0a0000000002 0x0a000002)

-- ---- lines

abbrev to_p2 : List ℕ → List RowLine
to_p2 text = there (to_one (codes "p2")) text ∷ []

abbrev to_p1 : List ℕ → List RowLine
to_p1 text = back (to_one (codes "p1")) text ∷ []

abbrev out_p2 : List ℕ → List RowLine
out_p2 text = out (codes "p2") (hex text) ∷ []

abbrev out_p1 : List ℕ → List RowLine
out_p1 text = out (codes "p1") (hex text) ∷ []

abbrev dropped : Name → Cause → List RowLine
dropped port why = drop (codes "s0") port why ∷ []

abbrev tells : (lines : List RowLine) → wanted lines ≡ wanted lines
tells lines = refl {a = wanted lines}

-- ---- widths

abbrev wide_rules_state : State
wide_rules_state = quiet_after row.wide_rules empty

wide_rules_first : {rest : List RowEvent} {ws : List Told} → Tells rest wide_rules_state ws → Tells (row.wide_rules ++ rest) empty ws
unfolding all_told
wide_rules_first h = record { told_so = h.told_so }

abbrev widths_1 : State
widths_1 = finished (ended_journey wide_rules_state (journey_in wide_rules_state (to_p2 u) p1 (codes "hv1") (packet u) default))

abbrev widths_2 : State
widths_2 = finished (ended_journey widths_1 (journey_out widths_1 (out_p2 u) 1 switch_0 port_1 port_2 (codes "hv2") p2 (packet u) default))

abbrev widths_3 : State
widths_3 = finished (ended_journey widths_2 (journey_in widths_2 (dropped (codes "p1") cause.Acl) p1 (codes "hv1") (packet row.to_1024) deny))

abbrev widths_4 : State
widths_4 = finished (ended_journey widths_3 (journey_in widths_3 (to_p2 row.to_1023) p1 (codes "hv1") (packet row.to_1023) default))

abbrev widths_5 : State
widths_5 = finished (ended_journey widths_4 (journey_out widths_4 (out_p2 row.to_1023) 2 switch_0 port_1 port_2 (codes "hv2") p2 (packet row.to_1023) default))

widths_tells : Tells row.widths empty (all_wanted row.widths)
unfolding frame_of ip4_header stands_in points
widths_tells = wide_rules_first (
    enters wide_rules_state (to_p2 u) p1 (codes "hv1") (packet u) default refl refl refl refl refl (wide_say FromLport (sight_in p1 (packet u))) (tells (to_p2 u)) (
    arrives widths_1 (out_p2 u) 1 switch_0 port_1 port_2 (codes "hv2") p2 (packet u) default refl refl refl refl refl (wide_say ToLport (sight_out port_1 p2 (packet u))) (tells (out_p2 u)) (
    enters widths_2 (dropped (codes "p1") cause.Acl) p1 (codes "hv1") (packet row.to_1024) deny refl refl refl refl refl (wide_say FromLport (sight_in p1 (packet row.to_1024))) (tells (dropped (codes "p1") cause.Acl)) (
    enters widths_3 (to_p2 row.to_1023) p1 (codes "hv1") (packet row.to_1023) default refl refl refl refl refl (wide_say FromLport (sight_in p1 (packet row.to_1023))) (tells (to_p2 row.to_1023)) (
    arrives widths_4 (out_p2 row.to_1023) 2 switch_0 port_1 port_2 (codes "hv2") p2 (packet row.to_1023) default refl refl refl refl refl (wide_say ToLport (sight_out port_1 p2 (packet row.to_1023))) (tells (out_p2 row.to_1023)) (
    ends widths_5))))))

pub widths : ComesOut row.widths
unfolding ComesOut
widths = widths_tells.told_so

-- ---- group-on-two-switches

abbrev group_rules_state : State
group_rules_state = quiet_after row.group_rules empty

group_rules_first : {rest : List RowEvent} {ws : List Told} → Tells rest group_rules_state ws → Tells (row.group_rules ++ rest) empty ws
unfolding all_told
group_rules_first h = record { told_so = h.told_so }

abbrev group_on_two_switches_1 : State
group_on_two_switches_1 = finished (ended_journey group_rules_state (journey_in group_rules_state (to_p2 f) p1 (codes "hv1") (packet f) default))

abbrev group_on_two_switches_2 : State
group_on_two_switches_2 = finished (ended_journey group_on_two_switches_1 (journey_out group_on_two_switches_1 (out_p2 f) 1 switch_0 port_1 port_2 (codes "hv2") p2 (packet f) default))

abbrev group_on_two_switches_3 : State
group_on_two_switches_3 = finished (ended_journey group_on_two_switches_2 (journey_in group_on_two_switches_2 (dropped (codes "p2") cause.Acl) p2 (codes "hv2") (packet row.from_p2) deny))

group_on_two_switches_tells : Tells row.group_on_two_switches empty (all_wanted row.group_on_two_switches)
unfolding frame_of ip4_header stands_in points
group_on_two_switches_tells = group_rules_first (
    enters group_rules_state (to_p2 f) p1 (codes "hv1") (packet f) default refl refl refl refl refl (group_say FromLport (sight_in p1 (packet f))) (tells (to_p2 f)) (
    arrives group_on_two_switches_1 (out_p2 f) 1 switch_0 port_1 port_2 (codes "hv2") p2 (packet f) default refl refl refl refl refl (group_say ToLport (sight_out port_1 p2 (packet f))) (tells (out_p2 f)) (
    enters group_on_two_switches_2 (dropped (codes "p2") cause.Acl) p2 (codes "hv2") (packet row.from_p2) deny refl refl refl refl refl (group_say FromLport (sight_in p2 (packet row.from_p2))) (tells (dropped (codes "p2") cause.Acl)) (
    ends group_on_two_switches_3))))

pub group_on_two_switches : ComesOut row.group_on_two_switches
unfolding ComesOut
group_on_two_switches = group_on_two_switches_tells.told_so

-- ---- blocked-connection

abbrev related_rules_state : State
related_rules_state = quiet_after row.related_rules empty

related_rules_first : {rest : List RowEvent} {ws : List Told} → Tells rest related_rules_state ws → Tells (row.related_rules ++ rest) empty ws
unfolding all_told
related_rules_first h = record { told_so = h.told_so }

abbrev blocked_connection_1 : State
blocked_connection_1 = finished (ended_journey related_rules_state (journey_in related_rules_state (to_p2 u) p1 (codes "hv1") (packet u) allow_related))

abbrev blocked_connection_2 : State
blocked_connection_2 = finished (ended_journey blocked_connection_1 (journey_out blocked_connection_1 (out_p2 u) 1 switch_0 port_1 port_2 (codes "hv2") p2 (packet u) default))

abbrev blocked_connection_3 : State
blocked_connection_3 = finished (ended_journey blocked_connection_2 (journey_in blocked_connection_2 (to_p1 v) p2 (codes "hv2") (packet v) default))

abbrev blocked_connection_4 : State
blocked_connection_4 = finished (ended_journey blocked_connection_3 (journey_out blocked_connection_3 (out_p1 v) 2 switch_0 port_2 port_1 (codes "hv1") p1 (packet v) default))

abbrev blocked_connection_5 : State
blocked_connection_5 = quiet_after (edited (redo_rule (codes "a1") action.Drop ∷ []) ∷ []) blocked_connection_4

abbrev blocked_connection_6 : State
blocked_connection_6 = finished (ended_journey blocked_connection_5 (journey_in blocked_connection_5 (dropped (codes "p1") cause.Acl) p1 (codes "hv1") (packet u) deny))

abbrev blocked_connection_7 : State
blocked_connection_7 = finished (ended_journey blocked_connection_6 (journey_in blocked_connection_6 (to_p1 v) p2 (codes "hv2") (packet v) default))

abbrev blocked_connection_8 : State
blocked_connection_8 = finished (ended_journey blocked_connection_7 (journey_out blocked_connection_7 (dropped (codes "p1") cause.Blocked) 3 switch_0 port_2 port_1 (codes "hv1") p1 (packet v) default))

blocked_connection_tells : Tells row.blocked_connection empty (all_wanted row.blocked_connection)
unfolding frame_of ip4_header stands_in points
blocked_connection_tells = related_rules_first (
    enters related_rules_state (to_p2 u) p1 (codes "hv1") (packet u) allow_related refl refl refl refl refl (related_say FromLport (sight_in p1 (packet u))) (tells (to_p2 u)) (
    arrives blocked_connection_1 (out_p2 u) 1 switch_0 port_1 port_2 (codes "hv2") p2 (packet u) default refl refl refl refl refl (related_say ToLport (sight_out port_1 p2 (packet u))) (tells (out_p2 u)) (
    enters blocked_connection_2 (to_p1 v) p2 (codes "hv2") (packet v) default refl refl refl refl refl (related_say FromLport (sight_in p2 (packet v))) (tells (to_p1 v)) (
    arrives blocked_connection_3 (out_p1 v) 2 switch_0 port_2 port_1 (codes "hv1") p1 (packet v) default refl refl refl refl refl (related_say ToLport (sight_out port_2 p1 (packet v))) (tells (out_p1 v)) (
    edits blocked_connection_4 (redo_rule (codes "a1") action.Drop ∷ []) (
    enters blocked_connection_5 (dropped (codes "p1") cause.Acl) p1 (codes "hv1") (packet u) deny refl refl refl refl refl (turned_say FromLport (sight_in p1 (packet u))) (tells (dropped (codes "p1") cause.Acl)) (
    enters blocked_connection_6 (to_p1 v) p2 (codes "hv2") (packet v) default refl refl refl refl refl (turned_say FromLport (sight_in p2 (packet v))) (tells (to_p1 v)) (
    arrives blocked_connection_7 (dropped (codes "p1") cause.Blocked) 3 switch_0 port_2 port_1 (codes "hv1") p1 (packet v) default refl refl refl refl refl (turned_say ToLport (sight_out port_2 p1 (packet v))) (tells (dropped (codes "p1") cause.Blocked)) (
    ends blocked_connection_8)))))))))

pub blocked_connection : ComesOut row.blocked_connection
unfolding ComesOut
blocked_connection = blocked_connection_tells.told_so

-- ---- unblocked-connection

abbrev unblocked_connection_3 : State
unblocked_connection_3 = quiet_after (edited (redo_rule (codes "a1") action.Drop ∷ []) ∷ []) blocked_connection_2

abbrev unblocked_connection_4 : State
unblocked_connection_4 = finished (ended_journey unblocked_connection_3 (journey_in unblocked_connection_3 (dropped (codes "p1") cause.Acl) p1 (codes "hv1") (packet u) deny))

abbrev unblocked_connection_5 : State
unblocked_connection_5 = quiet_after (edited (redo_rule (codes "a1") action.AllowRelated ∷ []) ∷ []) unblocked_connection_4

abbrev unblocked_connection_6 : State
unblocked_connection_6 = finished (ended_journey unblocked_connection_5 (journey_in unblocked_connection_5 (to_p2 u) p1 (codes "hv1") (packet u) allow_related))

abbrev unblocked_connection_7 : State
unblocked_connection_7 = finished (ended_journey unblocked_connection_6 (journey_out unblocked_connection_6 (out_p2 u) 2 switch_0 port_1 port_2 (codes "hv2") p2 (packet u) default))

abbrev unblocked_connection_8 : State
unblocked_connection_8 = finished (ended_journey unblocked_connection_7 (journey_in unblocked_connection_7 (to_p1 v) p2 (codes "hv2") (packet v) default))

abbrev unblocked_connection_9 : State
unblocked_connection_9 = finished (ended_journey unblocked_connection_8 (journey_out unblocked_connection_8 (out_p1 v) 3 switch_0 port_2 port_1 (codes "hv1") p1 (packet v) default))

unblocked_connection_tells : Tells row.unblocked_connection empty (all_wanted row.unblocked_connection)
unfolding frame_of ip4_header stands_in points
unblocked_connection_tells = related_rules_first (
    enters related_rules_state (to_p2 u) p1 (codes "hv1") (packet u) allow_related refl refl refl refl refl (related_say FromLport (sight_in p1 (packet u))) (tells (to_p2 u)) (
    arrives blocked_connection_1 (out_p2 u) 1 switch_0 port_1 port_2 (codes "hv2") p2 (packet u) default refl refl refl refl refl (related_say ToLport (sight_out port_1 p2 (packet u))) (tells (out_p2 u)) (
    edits blocked_connection_2 (redo_rule (codes "a1") action.Drop ∷ []) (
    enters unblocked_connection_3 (dropped (codes "p1") cause.Acl) p1 (codes "hv1") (packet u) deny refl refl refl refl refl (turned_say FromLport (sight_in p1 (packet u))) (tells (dropped (codes "p1") cause.Acl)) (
    edits unblocked_connection_4 (redo_rule (codes "a1") action.AllowRelated ∷ []) (
    enters unblocked_connection_5 (to_p2 u) p1 (codes "hv1") (packet u) allow_related refl refl refl refl refl (related_say FromLport (sight_in p1 (packet u))) (tells (to_p2 u)) (
    arrives unblocked_connection_6 (out_p2 u) 2 switch_0 port_1 port_2 (codes "hv2") p2 (packet u) default refl refl refl refl refl (related_say ToLport (sight_out port_1 p2 (packet u))) (tells (out_p2 u)) (
    enters unblocked_connection_7 (to_p1 v) p2 (codes "hv2") (packet v) default refl refl refl refl refl (related_say FromLport (sight_in p2 (packet v))) (tells (to_p1 v)) (
    arrives unblocked_connection_8 (out_p1 v) 3 switch_0 port_2 port_1 (codes "hv1") p1 (packet v) default refl refl refl refl refl (related_say ToLport (sight_out port_2 p1 (packet v))) (tells (out_p1 v)) (
    ends unblocked_connection_9))))))))))

pub unblocked_connection : ComesOut row.unblocked_connection
unfolding ComesOut
unblocked_connection = unblocked_connection_tells.told_so

-- ---- rebound-port

abbrev answers_alone_state : State
answers_alone_state = quiet_after row.answers_alone empty

answers_alone_first : {rest : List RowEvent} {ws : List Told} → Tells rest answers_alone_state ws → Tells (row.answers_alone ++ rest) empty ws
unfolding all_told
answers_alone_first h = record { told_so = h.told_so }

abbrev rebound_port_1 : State
rebound_port_1 = finished (ended_journey answers_alone_state (journey_in answers_alone_state (to_p2 u) p1 (codes "hv1") (packet u) allow_related))

abbrev rebound_port_2 : State
rebound_port_2 = finished (ended_journey rebound_port_1 (journey_out rebound_port_1 (out_p2 u) 1 switch_0 port_1 port_2 (codes "hv2") p2 (packet u) default))

abbrev rebound_port_3 : State
rebound_port_3 = finished (ended_journey rebound_port_2 (journey_in rebound_port_2 (to_p1 v) p2 (codes "hv2") (packet v) default))

abbrev rebound_port_4 : State
rebound_port_4 = finished (ended_journey rebound_port_3 (journey_out rebound_port_3 (out_p1 v) 2 switch_0 port_2 port_1 (codes "hv1") p1 (packet v) deny))

abbrev rebound_port_5 : State
rebound_port_5 = quiet_after (bound (codes "p1") (codes "hv1") ∷ []) rebound_port_4

abbrev rebound_port_6 : State
rebound_port_6 = finished (ended_journey rebound_port_5 (journey_in rebound_port_5 (to_p1 v) p2 (codes "hv2") (packet v) default))

abbrev rebound_port_7 : State
rebound_port_7 = finished (ended_journey rebound_port_6 (journey_out rebound_port_6 (dropped (codes "p1") cause.Acl) 3 switch_0 port_2 port_1 (codes "hv1") p1 (packet v) deny))

rebound_port_tells : Tells row.rebound_port empty (all_wanted row.rebound_port)
unfolding frame_of ip4_header stands_in points
rebound_port_tells = answers_alone_first (
    enters answers_alone_state (to_p2 u) p1 (codes "hv1") (packet u) allow_related refl refl refl refl refl (alone_say FromLport (sight_in p1 (packet u))) (tells (to_p2 u)) (
    arrives rebound_port_1 (out_p2 u) 1 switch_0 port_1 port_2 (codes "hv2") p2 (packet u) default refl refl refl refl refl (alone_say ToLport (sight_out port_1 p2 (packet u))) (tells (out_p2 u)) (
    enters rebound_port_2 (to_p1 v) p2 (codes "hv2") (packet v) default refl refl refl refl refl (alone_say FromLport (sight_in p2 (packet v))) (tells (to_p1 v)) (
    arrives rebound_port_3 (out_p1 v) 2 switch_0 port_2 port_1 (codes "hv1") p1 (packet v) deny refl refl refl refl refl (alone_say ToLport (sight_out port_2 p1 (packet v))) (tells (out_p1 v)) (
    binds rebound_port_4 (codes "p1") (codes "hv1") (
    enters rebound_port_5 (to_p1 v) p2 (codes "hv2") (packet v) default refl refl refl refl refl (alone_say FromLport (sight_in p2 (packet v))) (tells (to_p1 v)) (
    arrives rebound_port_6 (dropped (codes "p1") cause.Acl) 3 switch_0 port_2 port_1 (codes "hv1") p1 (packet v) deny refl refl refl refl refl (alone_say ToLport (sight_out port_2 p1 (packet v))) (tells (dropped (codes "p1") cause.Acl)) (
    ends rebound_port_7))))))))

pub rebound_port : ComesOut row.rebound_port
unfolding ComesOut
rebound_port = rebound_port_tells.told_so

-- ---- unbound-port, removed-chassis

abbrev begun_1 : State
begun_1 = finished (ended_journey answers_alone_state (journey_in answers_alone_state (to_p2 u) p1 (codes "hv1") (packet u) allow_related))

abbrev begun_2 : State
begun_2 = finished (ended_journey begun_1 (journey_out begun_1 (out_p2 u) 1 switch_0 port_1 port_2 (codes "hv2") p2 (packet u) default))

abbrev unbound_port_3 : State
unbound_port_3 = quiet_after (unbound (codes "p1") ∷ []) begun_2

abbrev unbound_port_4 : State
unbound_port_4 = quiet_after (bound (codes "p1") (codes "hv1") ∷ []) unbound_port_3

abbrev unbound_port_5 : State
unbound_port_5 = finished (ended_journey unbound_port_4 (journey_in unbound_port_4 (to_p1 v) p2 (codes "hv2") (packet v) default))

abbrev unbound_port_6 : State
unbound_port_6 = finished (ended_journey unbound_port_5 (journey_out unbound_port_5 (dropped (codes "p1") cause.Acl) 2 switch_0 port_2 port_1 (codes "hv1") p1 (packet v) deny))

unbound_port_tells : Tells row.unbound_port empty (all_wanted row.unbound_port)
unfolding frame_of ip4_header stands_in points
unbound_port_tells = answers_alone_first (
    enters answers_alone_state (to_p2 u) p1 (codes "hv1") (packet u) allow_related refl refl refl refl refl (alone_say FromLport (sight_in p1 (packet u))) (tells (to_p2 u)) (
    arrives begun_1 (out_p2 u) 1 switch_0 port_1 port_2 (codes "hv2") p2 (packet u) default refl refl refl refl refl (alone_say ToLport (sight_out port_1 p2 (packet u))) (tells (out_p2 u)) (
    unbinds begun_2 (codes "p1") (
    binds unbound_port_3 (codes "p1") (codes "hv1") (
    enters unbound_port_4 (to_p1 v) p2 (codes "hv2") (packet v) default refl refl refl refl refl (alone_say FromLport (sight_in p2 (packet v))) (tells (to_p1 v)) (
    arrives unbound_port_5 (dropped (codes "p1") cause.Acl) 2 switch_0 port_2 port_1 (codes "hv1") p1 (packet v) deny refl refl refl refl refl (alone_say ToLport (sight_out port_2 p1 (packet v))) (tells (dropped (codes "p1") cause.Acl)) (
    ends unbound_port_6)))))))

pub unbound_port : ComesOut row.unbound_port
unfolding ComesOut
unbound_port = unbound_port_tells.told_so

abbrev removed_chassis_3 : State
removed_chassis_3 = quiet_after (chassis_removed (codes "hv1") ∷ []) begun_2

abbrev removed_chassis_4 : State
removed_chassis_4 = quiet_after (chassis_added (codes "hv1") ∷ []) removed_chassis_3

abbrev removed_chassis_5 : State
removed_chassis_5 = quiet_after (bound (codes "p1") (codes "hv1") ∷ []) removed_chassis_4

abbrev removed_chassis_6 : State
removed_chassis_6 = finished (ended_journey removed_chassis_5 (journey_in removed_chassis_5 (to_p1 v) p2 (codes "hv2") (packet v) default))

abbrev removed_chassis_7 : State
removed_chassis_7 = finished (ended_journey removed_chassis_6 (journey_out removed_chassis_6 (dropped (codes "p1") cause.Acl) 2 switch_0 port_2 port_1 (codes "hv1") p1 (packet v) deny))

removed_chassis_tells : Tells row.removed_chassis empty (all_wanted row.removed_chassis)
unfolding frame_of ip4_header stands_in points
removed_chassis_tells = answers_alone_first (
    enters answers_alone_state (to_p2 u) p1 (codes "hv1") (packet u) allow_related refl refl refl refl refl (alone_say FromLport (sight_in p1 (packet u))) (tells (to_p2 u)) (
    arrives begun_1 (out_p2 u) 1 switch_0 port_1 port_2 (codes "hv2") p2 (packet u) default refl refl refl refl refl (alone_say ToLport (sight_out port_1 p2 (packet u))) (tells (out_p2 u)) (
    chassis_goes begun_2 (codes "hv1") (
    chassis_comes removed_chassis_3 (codes "hv1") (
    binds removed_chassis_4 (codes "p1") (codes "hv1") (
    enters removed_chassis_5 (to_p1 v) p2 (codes "hv2") (packet v) default refl refl refl refl refl (alone_say FromLport (sight_in p2 (packet v))) (tells (to_p1 v)) (
    arrives removed_chassis_6 (dropped (codes "p1") cause.Acl) 2 switch_0 port_2 port_1 (codes "hv1") p1 (packet v) deny refl refl refl refl refl (alone_say ToLport (sight_out port_2 p1 (packet v))) (tells (dropped (codes "p1") cause.Acl)) (
    ends removed_chassis_7))))))))

pub removed_chassis : ComesOut row.removed_chassis
unfolding ComesOut
removed_chassis = removed_chassis_tells.told_so

-- ---- idle-connection

abbrev idle_connection_1 : State
idle_connection_1 = finished (ended_journey answers_alone_state (journey_in answers_alone_state (to_p2 u) p1 (codes "hv1") (packet u) allow_related))

abbrev idle_connection_2 : State
idle_connection_2 = finished (ended_journey idle_connection_1 (journey_out idle_connection_1 (out_p2 u) 1 switch_0 port_1 port_2 (codes "hv2") p2 (packet u) default))

abbrev idle_connection_3 : State
idle_connection_3 = quiet_after (passed 59 ∷ []) idle_connection_2

abbrev idle_connection_4 : State
idle_connection_4 = finished (ended_journey idle_connection_3 (journey_in idle_connection_3 (to_p1 v) p2 (codes "hv2") (packet v) default))

abbrev idle_connection_5 : State
idle_connection_5 = finished (ended_journey idle_connection_4 (journey_out idle_connection_4 (out_p1 v) 2 switch_0 port_2 port_1 (codes "hv1") p1 (packet v) deny))

abbrev idle_connection_6 : State
idle_connection_6 = quiet_after (passed 60 ∷ []) idle_connection_5

abbrev idle_connection_7 : State
idle_connection_7 = finished (ended_journey idle_connection_6 (journey_in idle_connection_6 (to_p1 v) p2 (codes "hv2") (packet v) default))

abbrev idle_connection_8 : State
idle_connection_8 = finished (ended_journey idle_connection_7 (journey_out idle_connection_7 (dropped (codes "p1") cause.Acl) 3 switch_0 port_2 port_1 (codes "hv1") p1 (packet v) deny))

idle_connection_tells : Tells row.idle_connection empty (all_wanted row.idle_connection)
unfolding frame_of ip4_header stands_in points
idle_connection_tells = answers_alone_first (
    enters answers_alone_state (to_p2 u) p1 (codes "hv1") (packet u) allow_related refl refl refl refl refl (alone_say FromLport (sight_in p1 (packet u))) (tells (to_p2 u)) (
    arrives idle_connection_1 (out_p2 u) 1 switch_0 port_1 port_2 (codes "hv2") p2 (packet u) default refl refl refl refl refl (alone_say ToLport (sight_out port_1 p2 (packet u))) (tells (out_p2 u)) (
    passes idle_connection_2 59 (
    enters idle_connection_3 (to_p1 v) p2 (codes "hv2") (packet v) default refl refl refl refl refl (alone_say FromLport (sight_in p2 (packet v))) (tells (to_p1 v)) (
    arrives idle_connection_4 (out_p1 v) 2 switch_0 port_2 port_1 (codes "hv1") p1 (packet v) deny refl refl refl refl refl (alone_say ToLport (sight_out port_2 p1 (packet v))) (tells (out_p1 v)) (
    passes idle_connection_5 60 (
    enters idle_connection_6 (to_p1 v) p2 (codes "hv2") (packet v) default refl refl refl refl refl (alone_say FromLport (sight_in p2 (packet v))) (tells (to_p1 v)) (
    arrives idle_connection_7 (dropped (codes "p1") cause.Acl) 3 switch_0 port_2 port_1 (codes "hv1") p1 (packet v) deny refl refl refl refl refl (alone_say ToLport (sight_out port_2 p1 (packet v))) (tells (dropped (codes "p1") cause.Acl)) (
    ends idle_connection_8)))))))))

pub idle_connection : ComesOut row.idle_connection
unfolding ComesOut
idle_connection = idle_connection_tells.told_so

-- ---- used-connection

abbrev used_connection_1 : State
used_connection_1 = finished (ended_journey answers_alone_state (journey_in answers_alone_state (to_p2 u) p1 (codes "hv1") (packet u) allow_related))

abbrev used_connection_2 : State
used_connection_2 = finished (ended_journey used_connection_1 (journey_out used_connection_1 (out_p2 u) 1 switch_0 port_1 port_2 (codes "hv2") p2 (packet u) default))

abbrev used_connection_3 : State
used_connection_3 = quiet_after (passed 59 ∷ []) used_connection_2

abbrev used_connection_4 : State
used_connection_4 = finished (ended_journey used_connection_3 (journey_in used_connection_3 (to_p1 v) p2 (codes "hv2") (packet v) default))

abbrev used_connection_5 : State
used_connection_5 = finished (ended_journey used_connection_4 (journey_out used_connection_4 (out_p1 v) 2 switch_0 port_2 port_1 (codes "hv1") p1 (packet v) deny))

abbrev used_connection_6 : State
used_connection_6 = quiet_after (passed 59 ∷ []) used_connection_5

abbrev used_connection_7 : State
used_connection_7 = finished (ended_journey used_connection_6 (journey_in used_connection_6 (to_p1 v) p2 (codes "hv2") (packet v) default))

abbrev used_connection_8 : State
used_connection_8 = finished (ended_journey used_connection_7 (journey_out used_connection_7 (out_p1 v) 3 switch_0 port_2 port_1 (codes "hv1") p1 (packet v) deny))

abbrev used_connection_9 : State
used_connection_9 = quiet_after (passed 59 ∷ []) used_connection_8

abbrev used_connection_10 : State
used_connection_10 = finished (ended_journey used_connection_9 (journey_in used_connection_9 (to_p2 u) p1 (codes "hv1") (packet u) allow_related))

abbrev used_connection_11 : State
used_connection_11 = finished (ended_journey used_connection_10 (journey_out used_connection_10 (out_p2 u) 4 switch_0 port_1 port_2 (codes "hv2") p2 (packet u) default))

abbrev used_connection_12 : State
used_connection_12 = quiet_after (passed 59 ∷ []) used_connection_11

abbrev used_connection_13 : State
used_connection_13 = finished (ended_journey used_connection_12 (journey_in used_connection_12 (to_p1 v) p2 (codes "hv2") (packet v) default))

abbrev used_connection_14 : State
used_connection_14 = finished (ended_journey used_connection_13 (journey_out used_connection_13 (out_p1 v) 5 switch_0 port_2 port_1 (codes "hv1") p1 (packet v) deny))

used_connection_tells : Tells row.used_connection empty (all_wanted row.used_connection)
unfolding frame_of ip4_header stands_in points
used_connection_tells = answers_alone_first (
    enters answers_alone_state (to_p2 u) p1 (codes "hv1") (packet u) allow_related refl refl refl refl refl (alone_say FromLport (sight_in p1 (packet u))) (tells (to_p2 u)) (
    arrives used_connection_1 (out_p2 u) 1 switch_0 port_1 port_2 (codes "hv2") p2 (packet u) default refl refl refl refl refl (alone_say ToLport (sight_out port_1 p2 (packet u))) (tells (out_p2 u)) (
    passes used_connection_2 59 (
    enters used_connection_3 (to_p1 v) p2 (codes "hv2") (packet v) default refl refl refl refl refl (alone_say FromLport (sight_in p2 (packet v))) (tells (to_p1 v)) (
    arrives used_connection_4 (out_p1 v) 2 switch_0 port_2 port_1 (codes "hv1") p1 (packet v) deny refl refl refl refl refl (alone_say ToLport (sight_out port_2 p1 (packet v))) (tells (out_p1 v)) (
    passes used_connection_5 59 (
    enters used_connection_6 (to_p1 v) p2 (codes "hv2") (packet v) default refl refl refl refl refl (alone_say FromLport (sight_in p2 (packet v))) (tells (to_p1 v)) (
    arrives used_connection_7 (out_p1 v) 3 switch_0 port_2 port_1 (codes "hv1") p1 (packet v) deny refl refl refl refl refl (alone_say ToLport (sight_out port_2 p1 (packet v))) (tells (out_p1 v)) (
    passes used_connection_8 59 (
    enters used_connection_9 (to_p2 u) p1 (codes "hv1") (packet u) allow_related refl refl refl refl refl (alone_say FromLport (sight_in p1 (packet u))) (tells (to_p2 u)) (
    arrives used_connection_10 (out_p2 u) 4 switch_0 port_1 port_2 (codes "hv2") p2 (packet u) default refl refl refl refl refl (alone_say ToLport (sight_out port_1 p2 (packet u))) (tells (out_p2 u)) (
    passes used_connection_11 59 (
    enters used_connection_12 (to_p1 v) p2 (codes "hv2") (packet v) default refl refl refl refl refl (alone_say FromLport (sight_in p2 (packet v))) (tells (to_p1 v)) (
    arrives used_connection_13 (out_p1 v) 5 switch_0 port_2 port_1 (codes "hv1") p1 (packet v) deny refl refl refl refl refl (alone_say ToLport (sight_out port_2 p1 (packet v))) (tells (out_p1 v)) (
    ends used_connection_14)))))))))))))))

pub used_connection : ComesOut row.used_connection
unfolding ComesOut
used_connection = used_connection_tells.told_so

-- ---- lower-drop, drop-at-exit, reject-first

abbrev lower_drop_state : State
lower_drop_state = quiet_after precedence.lower_drop_rules empty

lower_drop_begins : {rest : List RowEvent} {ws : List Told} → Tells rest lower_drop_state ws → Tells (precedence.lower_drop_rules ++ rest) empty ws
unfolding all_told
lower_drop_begins h = record { told_so = h.told_so }

abbrev lower_drop_1 : State
lower_drop_1 = finished (ended_journey lower_drop_state (journey_in lower_drop_state (to_p2 f) p1 (codes "hv1") (packet f) allow))

abbrev lower_drop_2 : State
lower_drop_2 = finished (ended_journey lower_drop_1 (journey_out lower_drop_1 (out_p2 f) 1 switch_0 port_1 port_2 (codes "hv2") p2 (packet f) default))

lower_drop_tells : Tells precedence.lower_drop empty (all_wanted precedence.lower_drop)
unfolding frame_of ip4_header stands_in points
lower_drop_tells = lower_drop_begins (
    enters lower_drop_state (to_p2 f) p1 (codes "hv1") (packet f) allow refl refl refl refl refl (lower_say FromLport (sight_in p1 (packet f))) (tells (to_p2 f)) (
    arrives lower_drop_1 (out_p2 f) 1 switch_0 port_1 port_2 (codes "hv2") p2 (packet f) default refl refl refl refl refl (lower_say ToLport (sight_out port_1 p2 (packet f))) (tells (out_p2 f)) (
    ends lower_drop_2)))

pub lower_drop : ComesOut precedence.lower_drop
unfolding ComesOut
lower_drop = lower_drop_tells.told_so

abbrev drop_at_exit_state : State
drop_at_exit_state = quiet_after precedence.drop_at_exit_rules empty

drop_at_exit_begins : {rest : List RowEvent} {ws : List Told} → Tells rest drop_at_exit_state ws → Tells (precedence.drop_at_exit_rules ++ rest) empty ws
unfolding all_told
drop_at_exit_begins h = record { told_so = h.told_so }

abbrev drop_at_exit_1 : State
drop_at_exit_1 = finished (ended_journey drop_at_exit_state (journey_in drop_at_exit_state (to_p2 f) p1 (codes "hv1") (packet f) default))

abbrev drop_at_exit_2 : State
drop_at_exit_2 = finished (ended_journey drop_at_exit_1 (journey_out drop_at_exit_1 (dropped (codes "p2") cause.Acl) 1 switch_0 port_1 port_2 (codes "hv2") p2 (packet f) deny))

drop_at_exit_tells : Tells precedence.drop_at_exit empty (all_wanted precedence.drop_at_exit)
unfolding frame_of ip4_header stands_in points
drop_at_exit_tells = drop_at_exit_begins (
    enters drop_at_exit_state (to_p2 f) p1 (codes "hv1") (packet f) default refl refl refl refl refl (exit_say FromLport (sight_in p1 (packet f))) (tells (to_p2 f)) (
    arrives drop_at_exit_1 (dropped (codes "p2") cause.Acl) 1 switch_0 port_1 port_2 (codes "hv2") p2 (packet f) deny refl refl refl refl refl (exit_say ToLport (sight_out port_1 p2 (packet f))) (tells (dropped (codes "p2") cause.Acl)) (
    ends drop_at_exit_2)))

pub drop_at_exit : ComesOut precedence.drop_at_exit
unfolding ComesOut
drop_at_exit = drop_at_exit_tells.told_so

pub reject_first : ComesOut precedence.reject_first
unfolding ComesOut all_told frame_of ip4_header stands_in points
reject_first = rw (reject_say) (refl {a = all_wanted precedence.reject_first})
