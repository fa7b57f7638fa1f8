-- What becomes of a copy by the action that takes it into another datapath.
use Rattle.std.specs.Prelude.{◌≡◌, nat_lt, Bool, true, false, cond, List, [], ◌∷◌}
use Rattle.std.proofs.Common.{sym, subst}
use Rattle.flow_table.specs.declared.flow.Cause.TheVariants as cause
use Rattle.flow_table.specs.declared.flow.FlowOp.TheVariants as op
use Rattle.inet_packet.specs.declared.regs.Regs.{Regs}
use Rattle.ovn_base.specs.declared.limits.TheConstants.{MAX_HOPS}
use Rattle.physical_flows.specs.declared.beyond.Beyond.{Beyond}
use Rattle.switch_engine.specs.Actions.{drop_at, patched, patched_regs}
use Rattle.switch_engine.specs.Acts.{Act, turns, drops}
use Rattle.switch_engine.specs.Outcome.{FlowOutcome, with_act, after_turn, outcome, going_on, choosing, IsDone}
use Rattle.switch_engine.specs.Zones.{ZoneLists}
use Rattle.switch_engine.specs.declared.actions.Turn.TheVariants.{Leaves}
use Rattle.switch_engine.specs.declared.carried.Carried.{Carried}
use Rattle.switch_engine.specs.declared.effect.Effect.{Effect}
use Rattle.sim_laws.proofs.pipelines.Tables.{DoesOps}
use Rattle.sim_laws.specs.pipelines.Standing.{Chassis}
use Rattle.sim_laws.specs.pipelines.WalkOn.{Reached}

module _ (s : Chassis) (zones : ZoneLists) (copy : Carried) (So : Reached) (to : Beyond) where
  abbrev pub beyond_regs : Regs
  beyond_regs = patched_regs to.dp to.in_port to.z_dnat to.z_snat copy.regs

  -- where it may pass, or not
  abbrev passes_if : Bool → List Effect → Act
  passes_if may told = cond may (turns Leaves (record (choosing copy zones told) { copy = patched beyond_regs copy })) (drops cause.HopLimit (choosing copy zones told))

  abbrev outcome_if : Bool → List Effect → FlowOutcome
  outcome_if may told = let a = passes_if may told in with_act a (after_turn a.turn a.after (outcome s.entry s.scene.now []))

  abbrev DoesIf : Bool → Type 0
  DoesIf may = (told : List Effect) → IsDone s.by (outcome_if may told) told → So told (outcome_if may told).zones (going_on (outcome_if may told))

  pub passes_does : nat_lt copy.passes MAX_HOPS ≡ true → So [] zones (patched beyond_regs copy ∷ []) → DoesOps s (op.Patch to.dp to.in_port to.z_dnat to.z_snat ∷ []) zones copy So
  passes_does may so = subst DoesIf (sym may) (λ told done. subst (λ l. So l zones (patched beyond_regs copy ∷ [])) done.effects so)

  pub stops_does : nat_lt copy.passes MAX_HOPS ≡ false → So (drop_at copy.table cause.HopLimit copy.regs ∷ []) zones [] → DoesOps s (op.Patch to.dp to.in_port to.z_dnat to.z_snat ∷ []) zones copy So
  stops_does may so = subst DoesIf (sym may) (λ told done. subst (λ l. So l zones []) done.effects so)
