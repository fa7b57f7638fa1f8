-- In each stage of a switch some row holds of every packet, and what a stage's law says of its table.
use Rattle.std.specs.Prelude.{◌≡◌, ◌∷◌, [], Bool, true, false, List}
use Rattle.std.proofs.Common.{refl, sym, ap, ◌∙◌}
use Rattle.ovn_base.specs.lists.Among.{Among, here, there}
use Rattle.ovn_base.specs.names.ByName.{at}
use Rattle.flow_table.specs.declared.flow.ZoneOf.{ZoneOf}
use Rattle.flow_table.specs.declared.flow.ZoneOf.TheVariants as zone
use Rattle.nb_records.specs.Switches.{is_stateful}
use Rattle.logical_flows.specs.Stages.{stage_table}
use Rattle.logical_flows.specs.declared.action.Action.{Action}
use Rattle.logical_flows.specs.declared.stage.Stage.{Stage}
use Rattle.logical_flows.specs.declared.stage.Stage.TheVariants as stage
use Rattle.stage_rows.specs.Rows.{go_on, match_row}
use Rattle.stage_rows.specs.StateRows.{state_rows, state_row}
use Rattle.stage_rows.specs.SwitchRows.{some_take_unknown, unknown_actions}
use Rattle.stage_rows.specs.Units.{switch_rows}
use Rattle.tunnel_keys.proofs.HeldKeys.{found, is_found}
use Rattle.flow_lowering.specs.LoweredFlows.{lowered_ops}
use Rattle.net_model.specs.Sights.{roster_of}
use Rattle.row_laws.proofs.lowered.BestRows.{best_row, some_matches}
use Rattle.row_laws.proofs.units.RowUnits.{a_switch_row}
use Rattle.row_laws.proofs.units.StageRows.{is_of_switches}
use Rattle.row_laws.proofs.units.TakenRow.{row_holds}
use Rattle.row_laws.proofs.records.ValidPorts.{on_switch}
use Rattle.row_laws.specs.StageLaws.{StageLaw, BaseLaw, AgreeLaw, TableLaw}

-- ---- the row of priority 0

base_by : (s : Stage) (actions : Bool → List Action) → ((stateful takes : Bool) → Among (match_row s 0 [] (actions takes)) (switch_rows s stateful takes)) → BaseLaw s
base_by s actions among net d there' regs sight =
    let sw = found (at net.switches d) there' in
    let last = actions (some_take_unknown net d) in
    let row = match_row s 0 [] last in
    (row, a_switch_row net s row d sw.0 sw.1 (among (is_stateful net d) (some_take_unknown net d)), row_holds net s sight regs 0 [] last refl)

abbrev passing : (s : Stage) → Bool → List Action
passing s takes = go_on s ∷ []

last_state : (stateful : Bool) (s : Stage) (z : ZoneOf) → Among (state_row s 0 [] (go_on s ∷ [])) (state_rows stateful s z)
last_state true s z = there (there (there (there (there (there (there (there (there (there (there (there (there here))))))))))))
last_state false s z = there (there (there (there (there (there (there (there (there (there (there (there (there (there here)))))))))))))

pub base_law : (s : Stage) → is_of_switches s ≡ true → BaseLaw s
base_law stage.SwitchAdmit of = base_by stage.SwitchAdmit (passing stage.SwitchAdmit) (λ stateful takes. there (there here))
base_law stage.SwitchPortSecurity of = base_by stage.SwitchPortSecurity (passing stage.SwitchPortSecurity) (λ stateful takes. here)
base_law stage.SwitchTrack of = base_by stage.SwitchTrack (passing stage.SwitchTrack) (λ stateful takes. here)
base_law stage.SwitchAclIn of = base_by stage.SwitchAclIn (passing stage.SwitchAclIn) (λ stateful takes. here)
base_law stage.SwitchStateIn of = base_by stage.SwitchStateIn (passing stage.SwitchStateIn) (λ stateful takes. last_state stateful stage.SwitchStateIn zone.In)
base_law stage.SwitchArp of = base_by stage.SwitchArp (passing stage.SwitchArp) (λ stateful takes. here)
base_law stage.SwitchLookup of = base_by stage.SwitchLookup unknown_actions (λ stateful takes. there here)
base_law stage.SwitchTrackOut of = base_by stage.SwitchTrackOut (passing stage.SwitchTrackOut) (λ stateful takes. here)
base_law stage.SwitchAclOut of = base_by stage.SwitchAclOut (passing stage.SwitchAclOut) (λ stateful takes. here)
base_law stage.SwitchStateOut of = base_by stage.SwitchStateOut (passing stage.SwitchStateOut) (λ stateful takes. last_state stateful stage.SwitchStateOut zone.Out)
base_law stage.SwitchSecurityOut of = base_by stage.SwitchSecurityOut (passing stage.SwitchSecurityOut) (λ stateful takes. here)
base_law _ of = absurd cc

-- ---- what follows from the law of a stage

module _ (s : Stage) (law : StageLaw s) where
  pub rows_agree : AgreeLaw s
  rows_agree net valid c regs h row other first second = law net valid c regs h row first ∙ sym (law net valid c regs h other second)

  pub table_law : is_of_switches s ≡ true → TableLaw s
  table_law of net keys sets flows c regs h =
      let who = roster_of net in
      let sw = on_switch net h.valid c.port.name c.port h.copy.there in
      let base = base_law s of net c.port.switch (is_found (at net.switches c.port.switch) sw.0 sw.1) regs c.sight in (
        some_matches net keys sets flows (stage_table s) h.holds who c.port.switch regs c.sight h.numbers base.0 base.1 base.2,
        λ f best.
            let own = best_row net keys sets flows (stage_table s) h.holds who c.port.switch regs c.sight h.numbers f best in
            own.ops ∙ ap (lowered_ops keys) (law net h.valid c regs h.copy own.row own.best),
      )
