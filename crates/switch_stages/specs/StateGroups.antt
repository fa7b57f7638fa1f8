-- The rows that decide by verdict and connection, in groups.
use Rattle.std.specs.Prelude.{List, [], ◌∷◌, ◌++◌}
use Rattle.flow_table.specs.declared.flow.Cause.TheVariants as cause
use Rattle.logical_flows.specs.declared.action.Action.TheVariants as a
use Rattle.logical_flows.specs.declared.action.ZoneOf.{ZoneOf}
use Rattle.logical_flows.specs.declared.flow.LFlow.{LFlow}
use Rattle.logical_flows.specs.declared.stage.Stage.{Stage}
use Rattle.stage_rows.specs.Rows.{is_new, is_forward, is_reply, go_on}
use Rattle.stage_rows.specs.StateRows.{is_untracked, is_on_track, says_stateless, is_blocked, is_unblocked, state_row, refusals}
use Rattle.stage_rows.specs.declared.priorities.TheConstants.{ALLOWED_PRIORITY, REPLY_PRIORITY, UNTRACKED_PRIORITY, UNTRACKED_REFUSED_PRIORITY}

-- what isn't tracked, and what a rule lets through without a connection
abbrev pub untracked_rows : Stage → List LFlow
untracked_rows s =
    refusals s UNTRACKED_REFUSED_PRIORITY is_untracked []
    ++ (state_row s UNTRACKED_PRIORITY (is_untracked ∷ []) (go_on s ∷ [])
    ∷ state_row s UNTRACKED_PRIORITY (is_on_track ∷ says_stateless ∷ []) (go_on s ∷ [])
    ∷ [])

-- replies
abbrev pub reply_rows : Stage → List LFlow
reply_rows s =
    state_row s REPLY_PRIORITY (is_reply ∷ is_blocked ∷ []) (a.Drop cause.Blocked ∷ [])
    ∷ state_row s REPLY_PRIORITY (is_reply ∷ is_unblocked ∷ []) (a.Touch ∷ a.Translate ∷ go_on s ∷ [])
    ∷ []

-- what no rule refuses
abbrev pub allowed_rows : Stage → ZoneOf → List LFlow
allowed_rows s z =
    state_row s ALLOWED_PRIORITY (is_forward ∷ []) (a.Unblock ∷ a.Touch ∷ a.Translate ∷ go_on s ∷ [])
    ∷ state_row s ALLOWED_PRIORITY (is_new ∷ []) (a.Commit z ∷ go_on s ∷ [])
    ∷ state_row s 0 [] (go_on s ∷ [])
    ∷ []
