use Rattle.std.specs.Map.{keys_of}
use Rattle.std.proofs.Common.{sym, subst}
use Rattle.flow_refs.specs.Origins.{flows_of}
use Rattle.stage_rows.specs.Units.{rows_of, IsLogicalFlow}
use Rattle.northd_core.specs.Held.{North, HaveSame, unit_order}
use Rattle.northd_core.specs.Plans.{ListsEach}
use Rattle.northd_core.proofs.NorthPlans.{flows_listed}
use Rattle.northd_core.proofs.northd.Northd.flow.Goals as goal

pub returns-clause-each : goal.returns-clause-each
returns-clause-each c net valid stands =
    let held = subst (λ (n : North). HaveSame (flows_of unit_order n.flows.origins) (rows_of net)) (sym c.self.view_is) stands.rows in
    subst (λ (n : North). ListsEach (IsLogicalFlow net) (keys_of n.flows.counts)) c.self.view_is
    (flows_listed net valid c.exact_flow.ensures c.self.inside.flows.origins (keys_of c.self.inside.flows.counts) held c.flow.ensures.once c.flow.ensures.held)
