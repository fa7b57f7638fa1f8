use Rattle.std.proofs.Common.{◌∙◌}
use Rattle.flow_refs.specs.Origins.{flows_of, flows_after}
use Rattle.northd_core.specs.Held.{unit_order}
use Rattle.northd_core.specs.Lowering.{lowered_of}
use Rattle.northd_core.proofs.Stores.{same_by}
use Rattle.northd_core.proofs.lowered.LoweredFlows.apply.Goals as goal

pub returns-clause-leads : goal.returns-clause-leads
returns-clause-leads c before after plan =
    same_by (flows_of unit_order c.apply.new.self.origins) (flows_after unit_order c.args.self.now.origins c.args.plan.changes) (lowered_of after)
    (λ u. c.apply.ensures.given u ∙ (λ i. flows_after unit_order (c.self.view_is i).origins (c.plan.view_is i).changes u)) plan.leads
