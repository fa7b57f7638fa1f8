-- The rows of a switch, by pipeline.
use Rattle.std.specs.Prelude.{List, [], ◌∷◌, ◌++◌, Bool}
use Rattle.logical_flows.specs.declared.action.ZoneOf.TheVariants as zone
use Rattle.logical_flows.specs.declared.flow.LFlow.{LFlow}
use Rattle.logical_flows.specs.declared.stage.Stage.TheVariants as stage
use Rattle.stage_rows.specs.Rows.{base_row}
use Rattle.stage_rows.specs.StateRows.{state_rows}
use Rattle.stage_rows.specs.SwitchRows.{switch_admit, switch_lookup}

abbrev pub rows_before_rules : List LFlow
rows_before_rules = switch_admit ++ base_row stage.SwitchPortSecurity ∷ base_row stage.SwitchTrack ∷ base_row stage.SwitchAclIn ∷ []

abbrev pub ingress_rows : Bool → Bool → List LFlow
ingress_rows stateful takes = rows_before_rules ++ state_rows stateful stage.SwitchStateIn zone.In ++ base_row stage.SwitchArp ∷ [] ++ switch_lookup takes

abbrev pub egress_rows : Bool → List LFlow
egress_rows stateful = base_row stage.SwitchTrackOut ∷ base_row stage.SwitchAclOut ∷ [] ++ state_rows stateful stage.SwitchStateOut zone.Out ++ base_row stage.SwitchSecurityOut ∷ []

abbrev pub listed_rows : Bool → Bool → List LFlow
listed_rows stateful takes = ingress_rows stateful takes ++ egress_rows stateful
