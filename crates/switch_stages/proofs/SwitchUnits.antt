-- The rows of a switch that is there.
use Rattle.std.specs.Prelude.{◌≡◌, Bool, true, false, flat_map}
use Rattle.std.proofs.Common.{refl, ap, ◌∙◌}
use Rattle.ovn_base.specs.declared.name.Name.{Name}
use Rattle.nb_records.specs.Network.{Network}
use Rattle.nb_records.specs.Switches.{is_stateful}
use Rattle.logical_flows.specs.declared.stage.Stage.{Stage}
use Rattle.logical_flows.specs.declared.unit.UnitId.TheVariants.{Switch}
use Rattle.stage_rows.specs.Admitting.{AdmitsSwitch}
use Rattle.stage_rows.specs.Rows.{on_some}
use Rattle.stage_rows.specs.SwitchRows.{some_take_unknown}
use Rattle.stage_rows.specs.Units.{rows_of, all_stages, switch_rows}
use Rattle.switch_stages.specs.SwitchLists.{listed_rows}

by_stage : (stateful takes : Bool) → flat_map (λ s. switch_rows s stateful takes) all_stages ≡ listed_rows stateful takes
by_stage true takes = refl
by_stage false takes = refl

pub switch_has_rows : (net : Network) (name : Name) → AdmitsSwitch net name → rows_of net (Switch name) ≡ listed_rows (is_stateful net name) (some_take_unknown net name)
switch_has_rows net name a =
    ap (λ o. flat_map (λ (s : Stage). on_some o (λ x. switch_rows s (is_stateful net name) (some_take_unknown net name))) all_stages) a.there
    ∙ by_stage (is_stateful net name) (some_take_unknown net name)
