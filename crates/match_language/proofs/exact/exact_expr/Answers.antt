use Rattle.match_language.proofs.SameExpr.{exact}
use Rattle.match_language.proofs.exact.exact_expr.Goals as goal

pub returns-clause-equal : goal.returns-clause-equal
returns-clause-equal c = λ a b. (
  λ h. exact (λ p q. (c.exact_predicate.ensures p q).0) (λ f g. (c.exact_field.ensures f g).0) (λ r s. (c.exact_rel.ensures r s).0) (λ v w. (c.exact_value.ensures.equal v w).0) a b h,
  c.equal_where_same.ensures a b,
)
