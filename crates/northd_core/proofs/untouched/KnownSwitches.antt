-- The rows that a switch has beside its ports name no port, no set and no group.
use Rattle.std.specs.Prelude.{Bool, true, false, [], ◌∷◌}
use Rattle.std.proofs.Common.{refl}
use Rattle.ovn_base.specs.declared.name.Name.{Name}
use Rattle.flow_table.specs.declared.flow.ZoneOf.{ZoneOf}
use Rattle.flow_table.specs.declared.flow.ZoneOf.TheVariants as zone
use Rattle.match_language.specs.declared.expr.Value.TheVariants as v
use Rattle.match_language.specs.declared.field.Field.TheVariants as f
use Rattle.match_language.specs.declared.field.Predicate.TheVariants as p
use Rattle.logical_flows.specs.declared.stage.Stage.{Stage}
use Rattle.logical_flows.specs.declared.stage.Stage.TheVariants as stage
use Rattle.stage_rows.specs.Rows.{all_of}
use Rattle.stage_rows.specs.StateRows.{state_rows}
use Rattle.stage_rows.specs.SwitchRows as switch
use Rattle.stage_rows.specs.Units.{switch_rows}
use Rattle.northd_core.proofs.untouched.KnownRows.{Are}
use Rattle.northd_core.proofs.untouched.KnownTerms as terms

module _ (known : Name → Bool) where
  bare : terms.IsKnown known (all_of [])
  bare = terms.known_all known [] tt

  state_known : (stateful : Bool) (s : Stage) (z : ZoneOf) → Are known (state_rows stateful s z)
  state_known true s z = (
    (bare, refl),
    ((bare, refl), ((bare, refl), ((bare, refl), ((bare, refl), ((bare, refl), ((bare, refl), ((bare, refl), ((bare, refl), ((bare, refl), ((bare, refl), ((bare, refl), ((bare, refl), ((bare, refl), tt))))))))))))),
  )
  state_known false s z = (
    (bare, refl),
    ((bare, refl), ((bare, refl), ((bare, refl), ((bare, refl), ((bare, refl), ((bare, refl), ((bare, refl), ((bare, refl), ((bare, refl), ((bare, refl), ((bare, refl), ((bare, refl), ((bare, refl), ((bare, refl), tt)))))))))))))),
  )

  -- the rows of a switch name none
  pub switch_known : (s : Stage) (stateful takes : Bool) → Are known (switch_rows s stateful takes)
  switch_known stage.SwitchAdmit stateful takes =
      ((terms.known_with known f.EthSrc (v.Number switch.group_bit switch.group_bit ∷ []) refl, refl), ((terms.known_field known f.EthType 0x8100, refl), ((bare, refl), tt)))
  switch_known stage.SwitchPortSecurity stateful takes = ((bare, refl), tt)
  switch_known stage.SwitchTrack stateful takes = ((bare, refl), tt)
  switch_known stage.SwitchAclIn stateful takes = ((bare, refl), tt)
  switch_known stage.SwitchStateIn stateful takes = state_known stateful stage.SwitchStateIn zone.In
  switch_known stage.SwitchArp stateful takes = ((bare, refl), tt)
  switch_known stage.SwitchLookup stateful true = ((terms.known_is known p.EthMcast, refl), ((bare, refl), tt))
  switch_known stage.SwitchLookup stateful false = ((terms.known_is known p.EthMcast, refl), ((bare, refl), tt))
  switch_known stage.SwitchTrackOut stateful takes = ((bare, refl), tt)
  switch_known stage.SwitchAclOut stateful takes = ((bare, refl), tt)
  switch_known stage.SwitchStateOut stateful takes = state_known stateful stage.SwitchStateOut zone.Out
  switch_known stage.SwitchSecurityOut stateful takes = ((bare, refl), tt)
  switch_known _ stateful takes = tt
