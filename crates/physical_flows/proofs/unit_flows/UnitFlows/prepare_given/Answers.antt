use Rattle.std.proofs.Common.{sym, subst, List, drop}
use Rattle.std.proofs.lemmas.List.{drop_all}
use Rattle.flow_refs.specs.Origins.{IsEachOnce}
use Rattle.flow_refs.specs.Store.{Prepared, IsKept, IsPreparedFor}
use Rattle.flow_table.specs.declared.flow.Flow.{Flow}
use Rattle.physical_flows.specs.Compiling.{basis_of}
use Rattle.physical_flows.specs.Stages.{Basis}
use Rattle.physical_flows.specs.UnitFlows.{UnitStore, same_flow, unit_order}
use Rattle.physical_flows.specs.declared.unit.FlowUnit.{FlowUnit}
use Rattle.physical_flows.proofs.UnitStores.{all_given, given_once, is_patch, still_prepared}
use Rattle.physical_flows.proofs.unit_flows.UnitFlows.prepare_given.Goals as goal

pub prepare-requires-clause-once : goal.prepare-requires-clause-once
prepare-requires-clause-once c =
    let b : Basis = basis_of c.args.maps.now in
    let es : List (FlowUnit × List Flow) = c.args.given.now in
    let all = all_given b c.units.changes es (drop c.units.unit-index es) c.units.invariant (drop_all c.units.unit-index es c.units-test.false) in
    subst (λ (changes : List (FlowUnit × List Flow)). IsEachOnce unit_order changes) (sym all) (given_once c.exact_unit.ensures.order b es c.requires.once)

pub returns-clause-prepared : goal.returns-clause-prepared
returns-clause-prepared c before after had are only =
    let b : Basis = basis_of c.args.maps.now in
    let es : List (FlowUnit × List Flow) = c.args.given.now in
    let all = all_given b c.units.changes es (drop c.units.unit-index es) c.units.invariant (drop_all c.units.unit-index es c.units-test.false) in
    let e = c.in_ok-patch.ensures in
    let kept : IsKept same_flow unit_order c.args.self.now.origins c.prepare.new.self.origins = subst (λ (s : UnitStore). IsKept same_flow unit_order s.origins c.prepare.new.self.origins) c.self.view_is e.kept in
    is_patch c.exact_flow.ensures c.exact_unit.ensures.order b es c.units.changes c.args.self.now c.prepare.new.self c.in_ok-patch.patch all e.prepared e.same kept before after had are only

pub returns-clause-left : goal.returns-clause-left
returns-clause-left c =
    let new : UnitStore = c.prepare.new.self in
    still_prepared c.args.self.now new (subst (λ (s : UnitStore). IsKept same_flow unit_order s.origins new.origins) c.self.view_is c.prepare.ensures.kept)
    (subst (λ (s : UnitStore). (p : Prepared Flow FlowUnit) → IsPreparedFor same_flow unit_order s p → IsPreparedFor same_flow unit_order new p) c.self.view_is c.prepare.ensures.stays)
