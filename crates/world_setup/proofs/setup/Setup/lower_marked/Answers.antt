use Rattle.std.specs.Prelude.{List}
use Rattle.std.proofs.Common.{◌∙◌, ap, subst, sym}
use Rattle.flow_refs.specs.Store.{Store}
use Rattle.flow_table.specs.declared.flow.Flow.{Flow}
use Rattle.logical_flows.specs.declared.unit.UnitId.{UnitId}
use Rattle.ovn_base.specs.lists.Among.{Among}
use Rattle.northd_core.specs.Lowering.{CanCompile, HaveLowered, IsLoweredPlan, StayLowered}
use Rattle.tunnel_keys.specs.Keys.{Keys}
use Rattle.world_setup.specs.Ground.{GroundView}
use Rattle.world_setup.specs.Setup.{SetupView, StandsForGround, lowering_in}
use Rattle.world_setup.specs.declared.setup.Setup.TheInside.{Inside}
use Rattle.world_setup.proofs.MarkedRows.{mark_compiled, mark_stays}
use Rattle.world_setup.proofs.SetupTurns.{stands_left}
use Rattle.world_setup.proofs.setup.Setup.lower_marked.Goals as goal

pub prepare_touched-requires : goal.prepare_touched-requires
prepare_touched-requires g c =
    let start = ap (λ (i : Inside). i.ground) c.self-inside.view_is ∙ ap (λ (s : SetupView). s.ground) c.self.view_is in
    subst (λ (k : Keys). CanCompile (record { net = c.args.records.now.after; keys = k })) (sym (ap (λ (x : GroundView). x.keys) start))
    (mark_compiled c.args.self.now.ground c.args.records.now c.requires.planned).1

-- what is held is left as it was
pub invariant_of-self : goal.invariant_of-self
invariant_of-self g c =
    let had = subst (λ (i : Inside). StandsForGround i.ground i.lowered i.stores.entries) (sym c.self-inside.view_is) c.self.invariant in
    stands_left _ _ _ _ c.prepare_touched.ensures.left had

pub returns-clause-planned : goal.returns-clause-planned
returns-clause-planned g c =
    let ground : GroundView = c.args.self.now.ground in
    let next = c.args.records.now.after in
    let start = ap (λ (i : Inside). i.ground) c.self-inside.view_is ∙ ap (λ (s : SetupView). s.ground) c.self.view_is in
    let held : HaveLowered (lowering_in ground) c.args.self.now.lowered = subst (λ (s : SetupView). HaveLowered (lowering_in s.ground) s.lowered) c.self.view_is c.self.invariant.lowered in
    let had = subst (λ (l : Store Flow UnitId). HaveLowered (lowering_in ground) l) (sym (ap (λ (i : Inside). i.lowered) c.self-inside.view_is ∙ ap (λ (s : SetupView). s.lowered) c.self.view_is)) held in
    let same = c.as_slice.ensures in
    let stay =
    mark_stays ground c.args.records.now c.requires.planned c.untouched_rows_stay.ensures _ c.after.result.now (ap (λ (x : GroundView). x.config.net) start) c.after.ensures _ (λ u. (
      λ m. (c.in_ok-rows.ensures u).0 (subst (λ (us : List UnitId). Among u us) same m),
      λ m. subst (λ (us : List UnitId). Among u us) (sym same) ((c.in_ok-rows.ensures u).1 m),
    )) in
    subst (λ (k : Keys). StayLowered (lowering_in ground) (record { net = next; keys = k }) c.as_slice.result.now → IsLoweredPlan (lowering_in ground) (record { net = next; keys = k }) c.prepare_touched.new.self c.in_ok-plan.plan)
    (ap (λ (x : GroundView). x.keys) start)
    (c.in_ok-plan.ensures.planned (lowering_in ground) (mark_compiled ground c.args.records.now c.requires.planned).0 had)
    stay
