use Rattle.std.specs.Cmp.{first_so, second_so}
use Rattle.ovn_base.proofs.Exact.{nat_exact, pointwise_exact}
use Rattle.flow_table.proofs.exact.exact_flow.Goals as goal

pub returns : goal.returns
returns c = λ a b. (
  λ h0.
      let h1 = second_so _ _ h0 in
      let h2 = second_so _ _ h1 in
      let h3 = second_so _ _ h2 in
      let h4 = second_so _ _ h3 in
      let table_same = nat_exact a.table b.table (first_so _ _ h0) in
      let priority_same = nat_exact a.priority b.priority (first_so _ _ h1) in
      let rank_same = nat_exact a.rank b.rank (first_so _ _ h2) in
      let cube_same = (c.exact_cube.ensures a.cube b.cube).0 (first_so _ _ h3) in
      let ops_same = pointwise_exact _ (λ x y. (c.exact_op.ensures x y).0) a.ops b.ops (first_so _ _ h4) in
      let cookie_same = nat_exact a.cookie b.cookie (second_so _ _ h4) in
      λ i. record { table = table_same i; priority = priority_same i; rank = rank_same i; cube = cube_same i; ops = ops_same i; cookie = cookie_same i },
  c.equal_where_same.ensures a b,
)
