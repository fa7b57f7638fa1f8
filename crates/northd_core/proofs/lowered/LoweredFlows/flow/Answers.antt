use Rattle.std.specs.Map.{keys_of}
use Rattle.std.proofs.Common.{sym, subst}
use Rattle.flow_refs.specs.Store.{Store}
use Rattle.flow_table.specs.declared.flow.Flow.{Flow}
use Rattle.logical_flows.specs.declared.unit.UnitId.{UnitId}
use Rattle.northd_core.specs.Lowering.{HaveLowered, IsLoweredIn}
use Rattle.northd_core.specs.Plans.{ListsEach}
use Rattle.northd_core.proofs.LoweredStores.{flows_listed}
use Rattle.northd_core.proofs.lowered.LoweredFlows.flow.Goals as goal

pub returns-clause-each : goal.returns-clause-each
returns-clause-each c l can have =
    let held = subst (λ (s : Store Flow UnitId). HaveLowered l s) (sym c.self.view_is) have in
    subst (λ (s : Store Flow UnitId). ListsEach (IsLoweredIn l) (keys_of s.counts)) c.self.view_is
    (flows_listed c.exact_flow.ensures l can c.self.inside.flows.origins (keys_of c.self.inside.flows.counts) held c.flow.ensures.once c.flow.ensures.held)
