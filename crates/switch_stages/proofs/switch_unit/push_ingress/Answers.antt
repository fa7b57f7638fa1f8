use Rattle.std.proofs.Common.{[], ◌∷◌}
use Rattle.logical_flows.specs.declared.action.ZoneOf.TheVariants.{In}
use Rattle.logical_flows.specs.declared.stage.Stage.TheVariants.{SwitchStateIn, SwitchArp}
use Rattle.stage_rows.specs.Rows.{base_row}
use Rattle.stage_rows.specs.StateRows.{state_rows}
use Rattle.stage_rows.specs.SwitchRows.{switch_lookup}
use Rattle.switch_stages.specs.SwitchLists.{rows_before_rules}
use Rattle.switch_stages.proofs.Pushes.{four_pushes}
use Rattle.switch_stages.proofs.switch_unit.push_ingress.Goals as goal

pub returns : goal.returns
returns c =
    four_pushes c.args.out.now rows_before_rules (state_rows c.args.stateful SwitchStateIn In) (base_row SwitchArp ∷ []) (switch_lookup c.args.takes)
    c.in_ok-push_before_rules.ensures c.in_ok-push_state.ensures c.in_ok-push_base.ensures c.in_ok-push_switch_lookup.ensures
