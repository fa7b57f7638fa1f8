-- The rows that decide by verdict and connection.
use Rattle.std.specs.Prelude.{ℕ, ◌++◌, Bool, true, false, List, [], ◌∷◌}
use Rattle.flow_table.specs.declared.flow.Cause.TheVariants as cause
use Rattle.inet_packet.specs.declared.regs.Reg.TheVariants as reg
use Rattle.logical_flows.specs.declared.action.Action.{Action}
use Rattle.logical_flows.specs.declared.action.Action.TheVariants as a
use Rattle.flow_table.specs.declared.flow.ZoneOf.{ZoneOf}
use Rattle.logical_flows.specs.declared.flow.LFlow.{LFlow}
use Rattle.logical_flows.specs.declared.flow.RegIs.{RegIs}
use Rattle.logical_flows.specs.declared.stage.Stage.{Stage}
use Rattle.stage_rows.specs.Rows.{reg_is, is_new, is_forward, is_reply, is_invalid, tracked_row, go_on}
use Rattle.stage_rows.specs.declared.priorities.TheConstants.{ALLOWED_PRIORITY, INVALID_PRIORITY, REFUSED_PRIORITY, REPLY_PRIORITY, UNTRACKED_PRIORITY, UNTRACKED_REFUSED_PRIORITY}

-- ---- registers

abbrev pub is_untracked : RegIs
is_untracked = reg_is reg.Tracked 0

abbrev pub is_on_track : RegIs
is_on_track = reg_is reg.Tracked 1

-- what the rules say
abbrev pub says_stateless : RegIs
says_stateless = reg_is reg.Verdict 3

abbrev pub says_reject : RegIs
says_reject = reg_is reg.Verdict 4

abbrev pub says_drop : RegIs
says_drop = reg_is reg.Verdict 5

-- whether a rule has blocked the connection
abbrev pub is_blocked : RegIs
is_blocked = reg_is reg.Blocked 1

abbrev pub is_unblocked : RegIs
is_unblocked = reg_is reg.Blocked 0

-- ---- rows

abbrev pub state_row : Stage → ℕ → List RegIs → List Action → LFlow
state_row s priority regs actions = tracked_row s priority regs [] actions

-- in this state, a row where the rules say drop, and one where they say reject, after some actions
abbrev pub refusals : Stage → ℕ → RegIs → List Action → List LFlow
refusals s priority state first =
    state_row s priority (state ∷ says_drop ∷ []) (first ++ a.Drop cause.Acl ∷ [])
    ∷ state_row s priority (state ∷ says_reject ∷ []) (first ++ a.Drop cause.Reject ∷ [])
    ∷ []

-- what belongs to no connection, on a stateful switch and on another
abbrev pub invalid_rows : Bool → Stage → List LFlow
invalid_rows true s = state_row s INVALID_PRIORITY (is_invalid ∷ []) (a.Drop cause.Invalid ∷ []) ∷ []
invalid_rows false s = refusals s INVALID_PRIORITY is_invalid []

-- the rows of a stage whose connections are in the zone
abbrev pub state_rows : Bool → Stage → ZoneOf → List LFlow
state_rows stateful s z =
    refusals s UNTRACKED_REFUSED_PRIORITY is_untracked []
    ++ (state_row s UNTRACKED_PRIORITY (is_untracked ∷ []) (go_on s ∷ [])
    ∷ state_row s UNTRACKED_PRIORITY (is_on_track ∷ says_stateless ∷ []) (go_on s ∷ [])
    ∷ [])
    ++ invalid_rows stateful s
    ++ (state_row s REPLY_PRIORITY (is_reply ∷ is_blocked ∷ []) (a.Drop cause.Blocked ∷ [])
    ∷ state_row s REPLY_PRIORITY (is_reply ∷ is_unblocked ∷ []) (a.Touch ∷ a.Translate ∷ go_on s ∷ [])
    ∷ [])
    ++ refusals s REFUSED_PRIORITY is_forward (a.Block ∷ [])
    ++ refusals s REFUSED_PRIORITY is_new []
    ++ (state_row s ALLOWED_PRIORITY (is_forward ∷ []) (a.Unblock ∷ a.Touch ∷ a.Translate ∷ go_on s ∷ [])
    ∷ state_row s ALLOWED_PRIORITY (is_new ∷ []) (a.Commit z ∷ go_on s ∷ [])
    ∷ state_row s 0 [] (go_on s ∷ [])
    ∷ [])
