use Rattle.std.proofs.Common.{◌≡◌, ◌∙◌, ℕ, sym, ap, subst, List, [], ◌∷◌, ◌++◌}
use Rattle.std.specs.Ordering.{nat_cmp}
use Rattle.flow_refs.specs.Origins.{IsEachOnce}
use Rattle.flow_refs.proofs.ForCallers.{one_once}
use Rattle.store_tests.proofs.tests.one.Goals as goal

pub returns : goal.returns
returns c =
    let change : ℕ × List ℕ = (c.args.origin, c.in_ok-flows.flows) in
    subst (λ (l : List (ℕ × List ℕ)). IsEachOnce nat_cmp l) (sym (c.in_ok-push.ensures.ok ∙ ap (λ (l : List (ℕ × List ℕ)). l ++ change ∷ []) c.new-changes.ensures)) (one_once nat_cmp change)
