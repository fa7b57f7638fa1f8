use Rattle.std.proofs.Common.{ap, sym, subst, ◌∙◌}
use Rattle.flow_refs.specs.Origins.{IsEachOnce}
use Rattle.flow_refs.specs.Store.{Store, Prepared, IsKept, IsPreparedFor}
use Rattle.flow_table.specs.declared.flow.Flow.{Flow}
use Rattle.logical_flows.specs.declared.unit.UnitId.{UnitId}
use Rattle.northd_core.specs.Held.{unit_order}
use Rattle.northd_core.specs.Lowering.{Lowering, lowered_of, same_lowered}
use Rattle.northd_core.proofs.LoweredStores.{is_left, is_plan}
use Rattle.northd_core.proofs.Stores.{given_once}
use Rattle.northd_core.proofs.lowered.LoweredFlows.plan_units.Goals as goal

pub prepare-requires-clause-once : goal.prepare-requires-clause-once
prepare-requires-clause-once g c =
    subst (λ es. IsEachOnce unit_order es) (sym c.in_ok-lowered.ensures.flows)
    (given_once (lowered_of (record { net = c.args.records.now; keys = c.args.keys.now })) c.args.units.now.keys c.in_ok-lowered.ensures.order)

pub returns-clause-left : goal.returns-clause-left
returns-clause-left g c =
    is_left c.exact_flow.ensures c.args.self.now c.prepare.new.self
    (subst (λ (s : Store Flow UnitId). IsKept same_lowered unit_order s.origins c.prepare.new.self.origins) c.self.view_is c.prepare.ensures.kept)
    (subst (λ (s : Store Flow UnitId). (p : Prepared Flow UnitId) → IsPreparedFor same_lowered unit_order s p → IsPreparedFor same_lowered unit_order c.prepare.new.self p) c.self.view_is c.prepare.ensures.stays)
    (c.prepare.ensures.counts ∙ ap (λ (s : Store Flow UnitId). s.counts) c.self.view_is)

pub returns-in_err-flows-clause-left : goal.returns-in_err-flows-clause-left
returns-in_err-flows-clause-left g c =
    is_left c.exact_flow.ensures c.args.self.now c.prepare.new.self
    (subst (λ (s : Store Flow UnitId). IsKept same_lowered unit_order s.origins c.prepare.new.self.origins) c.self.view_is c.prepare.ensures.kept)
    (subst (λ (s : Store Flow UnitId). (p : Prepared Flow UnitId) → IsPreparedFor same_lowered unit_order s p → IsPreparedFor same_lowered unit_order c.prepare.new.self p) c.self.view_is c.prepare.ensures.stays)
    (c.prepare.ensures.counts ∙ ap (λ (s : Store Flow UnitId). s.counts) c.self.view_is)

pub returns-clause-planned : goal.returns-clause-planned
returns-clause-planned g c =
    let after : Lowering = record { net = c.args.records.now; keys = c.args.keys.now } in
    is_plan c.exact_flow.ensures c.exact_units.ensures after c.requires c.args.units.now.keys
    c.args.self.now c.prepare.new.self c.in_ok-flows.flows c.in_ok-lowered.lowered c.in_ok-lowered.ensures.flows
    c.in_ok-flows.ensures.same
    (subst (λ (s : Store Flow UnitId). IsKept same_lowered unit_order s.origins c.prepare.new.self.origins) c.self.view_is c.prepare.ensures.kept)
    c.in_ok-flows.ensures.prepared
