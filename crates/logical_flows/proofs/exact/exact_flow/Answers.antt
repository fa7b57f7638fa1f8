use Rattle.std.specs.Cmp.{first_so, second_so}
use Rattle.ovn_base.proofs.Exact.{nat_exact, pointwise_exact}
use Rattle.logical_flows.proofs.exact.exact_flow.Goals as goal

pub returns : goal.returns
returns c = λ a b. (
  λ h0.
      let h1 = second_so _ _ h0 in
      let h2 = second_so _ _ h1 in
      let h3 = second_so _ _ h2 in
      let h4 = second_so _ _ h3 in
      let h5 = second_so _ _ h4 in
      let pipeline_same = (c.exact_pipeline.ensures a.pipeline b.pipeline).0 (first_so _ _ h0) in
      let stage_same = (c.exact_stage.ensures a.stage b.stage).0 (first_so _ _ h1) in
      let priority_same = nat_exact a.priority b.priority (first_so _ _ h2) in
      let rank_same = nat_exact a.rank b.rank (first_so _ _ h3) in
      let regs_same = pointwise_exact _ (λ x y. (c.exact_reg_is.ensures x y).0) a.regs b.regs (first_so _ _ h4) in
      let matching_same = (c.exact_expr.ensures.equal a.matching b.matching).0 (first_so _ _ h5) in
      let actions_same = pointwise_exact _ (λ x y. (c.exact_action.ensures x y).0) a.actions b.actions (second_so _ _ h5) in
      λ i. record {
        pipeline = pipeline_same i;
        stage = stage_same i;
        priority = priority_same i;
        rank = rank_same i;
        regs = regs_same i;
        matching = matching_same i;
        actions = actions_same i;
      },
  c.equal_where_same.ensures a b,
)
