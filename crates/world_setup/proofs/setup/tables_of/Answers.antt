use Rattle.std.proofs.Common.{◌∙◌, sym, subst}
use Rattle.physical_flows.specs.Around.{around_rows}
use Rattle.physical_flows.specs.ChassisFlows.{AreExactly}
use Rattle.physical_flows.specs.Compiling.{basis_of}
use Rattle.physical_flows.specs.UnitFlows.{HaveRows, IsTablePatch}
use Rattle.physical_flows.specs.Units.{no_rows}
use Rattle.physical_flows.proofs.UnitLaws.{none_have}
use Rattle.world_setup.specs.Setup.{IsFlowBy}
use Rattle.world_setup.proofs.FlowStores.{each_has_rows, each_unit_once, flows_joined, flows_of_rows, units_change}
use Rattle.world_setup.proofs.setup.tables_of.Goals as goal

pub prepare_around-requires-clause-once : goal.prepare_around-requires-clause-once
prepare_around-requires-clause-once c =
    each_unit_once (basis_of c.args.maps.now) c.as_slice.result.now c.as_slice-2.result.now (c.as_slice.ensures ∙ c.in_ok-units.ensures) (c.as_slice-2.ensures ∙ c.in_ok-everywhere.ensures) c.requires.keyed

pub prepare_around-requires-clause-around : goal.prepare_around-requires-clause-around
prepare_around-requires-clause-around c =
    each_has_rows (basis_of c.args.maps.now) c.as_slice.result.now c.as_slice-2.result.now (c.as_slice.ensures ∙ c.in_ok-units.ensures) (c.as_slice-2.ensures ∙ c.in_ok-everywhere.ensures)

pub apply-delta-requires : goal.apply-delta-requires
apply-delta-requires c =
    let only = units_change (basis_of c.args.maps.now) c.as_slice.result.now c.as_slice-2.result.now (c.as_slice.ensures ∙ c.in_ok-units.ensures) (c.as_slice-2.ensures ∙ c.in_ok-everywhere.ensures) in
    (c.in_ok-patch.ensures.prepared no_rows (subst (HaveRows no_rows) (sym c.in_ok-flows.ensures) none_have) only).ready

pub holding-requires : goal.holding-requires
holding-requires c =
    let only = units_change (basis_of c.args.maps.now) c.as_slice.result.now c.as_slice-2.result.now (c.as_slice.ensures ∙ c.in_ok-units.ensures) (c.as_slice-2.ensures ∙ c.in_ok-everywhere.ensures) in
    let patch : IsTablePatch no_rows (around_rows (basis_of c.args.maps.now)) c.prepare_around.new.self c.in_ok-patch.patch = c.in_ok-patch.ensures.prepared no_rows (subst (HaveRows no_rows) (sym c.in_ok-flows.ensures) none_have) only in
    let exact : AreExactly (IsFlowBy (basis_of c.args.maps.now)) c.append.new.self =
    flows_joined (basis_of c.args.maps.now) c.requires.keyed c.in_ok-all.all (c.in_ok-all.ensures.listed _ c.requires.compiled c.requires.lowered) c.in_ok-patch.patch.delta c.apply-delta.result patch.change c.apply-delta.ensures.shown c.append.new.self c.in_ok-append.ensures.ok in
    exact.once

pub returns-clause-rows : goal.returns-clause-rows
returns-clause-rows c =
    let only = units_change (basis_of c.args.maps.now) c.as_slice.result.now c.as_slice-2.result.now (c.as_slice.ensures ∙ c.in_ok-units.ensures) (c.as_slice-2.ensures ∙ c.in_ok-everywhere.ensures) in
    c.apply-delta.ensures.leads no_rows (around_rows (basis_of c.args.maps.now)) (c.in_ok-patch.ensures.prepared no_rows (subst (HaveRows no_rows) (sym c.in_ok-flows.ensures) none_have) only)

pub returns-clause-flows : goal.returns-clause-flows
returns-clause-flows c =
    let only = units_change (basis_of c.args.maps.now) c.as_slice.result.now c.as_slice-2.result.now (c.as_slice.ensures ∙ c.in_ok-units.ensures) (c.as_slice-2.ensures ∙ c.in_ok-everywhere.ensures) in
    let patch : IsTablePatch no_rows (around_rows (basis_of c.args.maps.now)) c.prepare_around.new.self c.in_ok-patch.patch = c.in_ok-patch.ensures.prepared no_rows (subst (HaveRows no_rows) (sym c.in_ok-flows.ensures) none_have) only in
    let exact : AreExactly (IsFlowBy (basis_of c.args.maps.now)) c.append.new.self =
    flows_joined (basis_of c.args.maps.now) c.requires.keyed c.in_ok-all.all (c.in_ok-all.ensures.listed _ c.requires.compiled c.requires.lowered) c.in_ok-patch.patch.delta c.apply-delta.result patch.change c.apply-delta.ensures.shown c.append.new.self c.in_ok-append.ensures.ok in
    flows_of_rows (basis_of c.args.maps.now) c.append.new.self c.in_ok-held.held exact c.in_ok-held.ensures
