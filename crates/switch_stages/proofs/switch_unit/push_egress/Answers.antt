use Rattle.std.proofs.Common.{[], ◌∷◌}
use Rattle.logical_flows.specs.declared.action.ZoneOf.TheVariants.{Out}
use Rattle.logical_flows.specs.declared.stage.Stage.TheVariants.{SwitchTrackOut, SwitchAclOut, SwitchStateOut, SwitchSecurityOut}
use Rattle.stage_rows.specs.Rows.{base_row}
use Rattle.stage_rows.specs.StateRows.{state_rows}
use Rattle.switch_stages.proofs.Pushes.{four_pushes}
use Rattle.switch_stages.proofs.switch_unit.push_egress.Goals as goal

pub returns : goal.returns
returns c =
    four_pushes c.args.out.now (base_row SwitchTrackOut ∷ []) (base_row SwitchAclOut ∷ []) (state_rows c.args.stateful SwitchStateOut Out) (base_row SwitchSecurityOut ∷ [])
    c.in_ok-push_base.ensures c.in_ok-push_base-2.ensures c.in_ok-push_state.ensures c.in_ok-push_base-3.ensures
