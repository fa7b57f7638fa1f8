use Rattle.std.specs.Prelude.{List, filter_map}
use Rattle.std.proofs.Common.{◌∙◌, ap, subst, sym}
use Rattle.flow_refs.specs.Store.{Store}
use Rattle.flow_table.specs.declared.flow.Flow.{Flow}
use Rattle.logical_flows.specs.declared.unit.UnitId.{UnitId}
use Rattle.ovn_base.specs.lists.Among.{Among}
use Rattle.northd_core.specs.Lowering.{CanCompile, HaveLowered, IsLoweredPlan, Lowering, StayLowered}
use Rattle.tunnel_keys.specs.Keys.{Keys}
use Rattle.world_setup.specs.Ground.{GroundView}
use Rattle.world_setup.specs.Setup.{SetupView, StandsForGround, lowering_in}
use Rattle.world_setup.specs.Touched.{row_unit}
use Rattle.world_setup.specs.declared.setup.Setup.TheInside.{Inside}
use Rattle.world_setup.proofs.LoweredEdits.{edit_stays}
use Rattle.world_setup.proofs.ReadiedChanges.{edit_compiled}
use Rattle.world_setup.proofs.SetupTurns.{stands_left}
use Rattle.world_setup.proofs.setup.Setup.lower.Goals as goal

pub prepare_touched-requires : goal.prepare_touched-requires
prepare_touched-requires g c =
    subst (λ (k : Keys). CanCompile (record { net = c.args.records.now.after; keys = k })) (sym c.after.ensures)
    (edit_compiled c.args.self.now.ground c.args.number c.args.ops.now c.requires.may.0 c.requires.may.1 c.args.records.now c.args.keys.now c.requires.planned).1

-- what is held is left as it was
pub invariant_of-self : goal.invariant_of-self
invariant_of-self g c =
    let had = subst (λ (i : Inside). StandsForGround i.ground i.lowered i.stores.entries) (sym c.self-inside.view_is) c.self.invariant in
    stands_left _ _ _ _ c.prepare_touched.ensures.left had

pub returns-clause-planned : goal.returns-clause-planned
returns-clause-planned g c =
    let ground : GroundView = c.args.self.now.ground in
    let after : Lowering = record { net = c.args.records.now.after; keys = c.args.keys.now } in
    let start = ap (λ (i : Inside). i.ground) c.self-inside.view_is ∙ ap (λ (s : SetupView). s.ground) c.self.view_is in
    let same = ap (λ (i : Inside). i.lowered) c.self-inside.view_is ∙ ap (λ (s : SetupView). s.lowered) c.self.view_is in
    let compiled = edit_compiled ground c.args.number c.args.ops.now c.requires.may.0 c.requires.may.1 c.args.records.now c.args.keys.now c.requires.planned in
    let held : HaveLowered (lowering_in ground) c.args.self.now.lowered = subst (λ (s : SetupView). HaveLowered (lowering_in s.ground) s.lowered) c.self.view_is c.self.invariant.lowered in
    let had = subst (λ (l : Store Flow UnitId). HaveLowered (lowering_in ground) l) (sym same) held in
    let touched = c.in_ok-touched.touched in
    let units = c.as_slice-2.ensures ∙ c.in_ok-units.ensures ∙ ap (filter_map row_unit) c.as_slice.ensures in
    let rules = c.as_slice-3.ensures ∙ c.in_ok-rules.ensures in
    let same = c.as_slice-4.ensures in
    let stay =
    edit_stays ground c.args.number c.args.ops.now c.requires.may.0 c.requires.may.1 c.args.records.now c.args.keys.now c.requires.planned c.untouched_rows_stay.ensures
    _ c.after-after.result.now (ap (λ (x : GroundView). x.config.net) start) c.after-after.ensures touched c.in_ok-touched.ensures.all _ units _ rules _ (λ u. (
      λ m. (c.in_ok-rows.ensures u).0 (subst (λ (us : List UnitId). Among u us) same m),
      λ m. subst (λ (us : List UnitId). Among u us) (sym same) ((c.in_ok-rows.ensures u).1 m),
    )) in
    subst (λ (k : Keys). StayLowered (lowering_in ground) (record after { keys = k }) c.as_slice-4.result.now → IsLoweredPlan (lowering_in ground) (record after { keys = k }) c.prepare_touched.new.self c.in_ok-plan.plan) c.after.ensures
    (c.in_ok-plan.ensures.planned (lowering_in ground) compiled.0 had)
    stay
