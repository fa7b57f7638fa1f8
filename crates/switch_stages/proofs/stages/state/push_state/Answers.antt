use Rattle.std.proofs.Common.{[], ◌∷◌}
use Rattle.logical_flows.specs.declared.action.Action.TheVariants.{Block}
use Rattle.stage_rows.specs.Rows.{is_new, is_forward}
use Rattle.stage_rows.specs.StateRows.{refusals, invalid_rows}
use Rattle.switch_stages.specs.StateGroups.{untracked_rows, reply_rows, allowed_rows}
use Rattle.switch_stages.proofs.Pushes.{six_pushes}
use Rattle.switch_stages.proofs.stages.state.push_state.Goals as goal

pub returns : goal.returns
returns c =
    let s = c.args.stage in
    six_pushes c.args.out.now (untracked_rows s) (invalid_rows c.args.stateful s) (reply_rows s) (refusals s 60 is_forward (Block ∷ [])) (refusals s 60 is_new []) (allowed_rows s c.args.zone)
    c.in_ok-push_untracked.ensures c.in_ok-push_invalid.ensures c.in_ok-push_replies.ensures c.in_ok-push_refusals.ensures c.in_ok-push_refusals-2.ensures c.in_ok-push_allowed.ensures
