use Rattle.std.proofs.Common.{ap, sym, subst, ◌∙◌}
use Rattle.flow_refs.specs.Origins.{flows_of, flows_after}
use Rattle.flow_refs.specs.Store.{IsPreparedFor}
use Rattle.stage_rows.specs.Units.{rows_of, pairs_of_unit}
use Rattle.northd_core.specs.Held.{North, same_pair, unit_order}
use Rattle.northd_core.specs.Plans.{Planned}
use Rattle.northd_core.proofs.Stores.{same_by}
use Rattle.northd_core.proofs.northd.Northd.apply.Goals as goal

pub apply-requires : goal.apply-requires
apply-requires c =
    subst (λ p. IsPreparedFor same_pair unit_order c.self.inside.pairs p) (sym (ap (λ (x : Planned). x.pairs) c.plan.view_is))
    (subst (λ s. IsPreparedFor same_pair unit_order s c.args.plan.pairs) (sym (ap (λ (x : North). x.pairs) c.self.view_is)) c.requires.pairs)

pub returns-clause-leads : goal.returns-clause-leads
returns-clause-leads c before after plan = record {
  rows = same_by (flows_of unit_order c.apply-2.new.self.origins) (flows_after unit_order c.args.self.now.flows.origins c.args.plan.flows.changes) (rows_of after)
      (λ u. c.apply-2.ensures.given u ∙ (λ i. flows_after unit_order (c.self.view_is i).flows.origins (c.plan.view_is i).flows.changes u)) plan.rows;
  pairs = same_by (flows_of unit_order c.apply.new.self.origins) (flows_after unit_order c.args.self.now.pairs.origins c.args.plan.pairs.changes) (pairs_of_unit after)
      (λ u. c.apply.ensures.given u ∙ (λ i. flows_after unit_order (c.self.view_is i).pairs.origins (c.plan.view_is i).pairs.changes u)) plan.rows_paired;
}
