-- What each stage of a switch does with a packet, by the network alone: its causes, verdicts and targets as actions.
use Rattle.std.specs.Prelude.{Bool, true, false, List, [], ◌∷◌, filter, Option, Some, None, cond}
use Rattle.std.specs.Option.{option_and_then}
use Rattle.conn_table.specs.Tuples.{tuple_of}
use Rattle.flow_table.specs.declared.flow.Cause.{Cause}
use Rattle.flow_table.specs.declared.flow.Cause.TheVariants as cause
use Rattle.flow_table.specs.declared.flow.ZoneOf.{ZoneOf}
use Rattle.flow_table.specs.declared.flow.ZoneOf.TheVariants as zone
use Rattle.inet_packet.specs.declared.packet.Packet.{Packet}
use Rattle.inet_packet.specs.declared.regs.Reg.TheVariants as reg
use Rattle.match_language.specs.declared.field.Direction.TheVariants.{FromLport, ToLport}
use Rattle.nb_records.specs.Network.{Network, is_online}
use Rattle.nb_records.specs.Switches.{is_stateful}
use Rattle.ovn_base.specs.declared.limits.TheConstants.{FLOOD_KEY, UNKNOWN_KEY}
use Rattle.ovn_base.specs.declared.name.Name.{Name}
use Rattle.logical_flows.specs.declared.action.Action.{Action}
use Rattle.logical_flows.specs.declared.action.Action.TheVariants as a
use Rattle.logical_flows.specs.declared.stage.Stage.{Stage}
use Rattle.logical_flows.specs.declared.stage.Stage.TheVariants as stage
use Rattle.stage_rows.specs.Rows.{go_on}
use Rattle.stage_rows.specs.SwitchRows.{answer_actions, goes_to_port, goes_to_group}
use Rattle.net_model.specs.declared.crossing.Group.TheVariants.{Flood, Unknown}
use Rattle.net_model.specs.Balancing.{Service, service_for}
use Rattle.net_model.specs.Entry.{admission, security_in}
use Rattle.net_model.specs.Exit.{exit_denial, security_out}
use Rattle.net_model.specs.Headers.{asked_ip}
use Rattle.net_model.specs.Targets.{Target, answer_from, to_one, to_group, to_nobody, answer_target, router_target, asked_of_all, flood_target, known_target, unknown_target}
use Rattle.net_model.specs.Tracking.{is_tracked, is_stateless, denial}
use Rattle.net_model.specs.Trail.{first_given}
use Rattle.net_model.specs.Verdict.{Verdict, default, verdict_of}
use Rattle.row_laws.specs.Copies.{Copy, Words, Finding, not_sought, found_new, found_forward, found_reply, found_invalid, verdict_code}

-- ---- to drop, to track, to judge

-- the packet passes the stage, unless there is a cause to drop it
abbrev pub unless_dropped : Stage → Option Cause → List Action
unless_dropped s None = go_on s ∷ []
unless_dropped s (Some why) = a.Drop why ∷ []

-- its connection is looked for in the zone, where it is tracked
abbrev pub track_actions : Stage → ZoneOf → Bool → List Action
track_actions s z true = a.Find z ∷ a.Set reg.Tracked 1 ∷ go_on s ∷ []
track_actions s z false = go_on s ∷ []

abbrev pub track_out_actions : Option Cause → Bool → List Action
track_out_actions None tracked = track_actions stage.SwitchTrackOut zone.Out tracked
track_out_actions (Some why) tracked = a.Drop why ∷ []

-- the verdict is kept, where a rule says something
abbrev pub verdict_actions : Stage → Verdict → List Action
verdict_actions s default = go_on s ∷ []
verdict_actions s v = a.Set reg.Verdict (verdict_code v) ∷ go_on s ∷ []

-- ---- by verdict and connection

-- a packet that belongs to no connection and can begin none
abbrev pub invalid_cause : Bool → Verdict → Option Cause
invalid_cause true v = Some cause.Invalid
invalid_cause false v = denial v

-- an answer on a connection that is blocked, or is not
abbrev pub reply_actions : Stage → Bool → List Action
reply_actions s true = a.Drop cause.Blocked ∷ []
reply_actions s false = a.Touch ∷ a.Translate ∷ go_on s ∷ []

-- a packet of a connection, which a denial blocks
abbrev pub forward_actions : Stage → Option Cause → List Action
forward_actions s (Some why) = a.Block ∷ a.Drop why ∷ []
forward_actions s None = a.Unblock ∷ a.Touch ∷ a.Translate ∷ go_on s ∷ []

-- the first packet of a connection, which begins so
abbrev pub new_actions : Stage → Action → Option Cause → List Action
new_actions s begins (Some why) = a.Drop why ∷ []
new_actions s begins None = begins ∷ go_on s ∷ []

-- a packet that is tracked
abbrev pub found_actions : Stage → Bool → Action → Words → Finding → List Action
found_actions s stateful begins w found_invalid = unless_dropped s (invalid_cause stateful w.verdict)
found_actions s stateful begins w found_reply = reply_actions s w.blocked
found_actions s stateful begins w found_forward = forward_actions s (denial w.verdict)
found_actions s stateful begins w found_new = new_actions s begins (denial w.verdict)
found_actions s stateful begins w not_sought = go_on s ∷ []

-- any packet: what is not tracked goes by the verdict alone, and what a rule allows without state passes
abbrev pub state_actions : Stage → Bool → Action → Words → List Action
state_actions s stateful begins w =
    cond w.tracked (cond (is_stateless w.verdict) (go_on s ∷ []) (found_actions s stateful begins w w.finding)) (unless_dropped s (denial w.verdict))

-- how a connection begins that enters: to a virtual address by one of its backends that are online
abbrev pub begin_with : Network → Option Service → Action
begin_with net None = a.Commit zone.In
begin_with net (Some s) = a.Balance zone.In s.vip.at (filter (is_online net s.balancer) s.vip.backends)

abbrev pub service_of : Network → Name → Packet → Option Service
service_of net switch p = option_and_then (service_for net switch) (tuple_of p)

abbrev pub begin_in : Network → Name → Packet → Action
begin_in net switch p = begin_with net (service_of net switch p)

-- ---- to answer, to find the target

abbrev pub answer_or_pass : Option Target → List Action
answer_or_pass (Some (answer_from mac ip)) = answer_actions mac ip
answer_or_pass _ = go_on stage.SwitchArp ∷ []

-- the target of a packet that is not answered
abbrev pub found_target : Network → Name → Packet → Target
found_target net switch p = first_given (
    router_target net switch (asked_of_all p)
    ∷ flood_target p
    ∷ known_target net switch p.dst
    ∷ unknown_target net switch
    ∷ []) to_nobody

abbrev pub target_actions : Target → List Action
target_actions (answer_from mac ip) = answer_actions mac ip
target_actions (to_one q) = goes_to_port q
target_actions (to_group Flood) = goes_to_group FLOOD_KEY
target_actions (to_group Unknown) = goes_to_group UNKNOWN_KEY
target_actions to_nobody = a.Drop cause.UnknownAddress ∷ []

-- ---- each stage

-- what the stage of a switch does with the copy
abbrev pub actions_at : Stage → Network → Copy → List Action
actions_at stage.SwitchAdmit net c = unless_dropped stage.SwitchAdmit (admission c.port c.sight.packet)
actions_at stage.SwitchPortSecurity net c = unless_dropped stage.SwitchPortSecurity (security_in c.port c.sight.packet)
actions_at stage.SwitchTrack net c = track_actions stage.SwitchTrack zone.In (is_tracked net c.port c.sight.packet)
actions_at stage.SwitchAclIn net c = verdict_actions stage.SwitchAclIn (verdict_of net c.port.switch FromLport c.sight)
actions_at stage.SwitchStateIn net c = state_actions stage.SwitchStateIn (is_stateful net c.port.switch) (begin_in net c.port.switch c.sight.packet) c.words
actions_at stage.SwitchArp net c = answer_or_pass (answer_target net c.port (asked_ip c.sight.packet))
actions_at stage.SwitchLookup net c = target_actions (found_target net c.port.switch c.sight.packet)
actions_at stage.SwitchTrackOut net c = track_out_actions (exit_denial c.port) (is_tracked net c.port c.sight.packet)
actions_at stage.SwitchAclOut net c = verdict_actions stage.SwitchAclOut (verdict_of net c.port.switch ToLport c.sight)
actions_at stage.SwitchStateOut net c = state_actions stage.SwitchStateOut (is_stateful net c.port.switch) (a.Commit zone.Out) c.words
actions_at stage.SwitchSecurityOut net c = unless_dropped stage.SwitchSecurityOut (security_out c.port c.sight.packet)
actions_at _ net c = []
