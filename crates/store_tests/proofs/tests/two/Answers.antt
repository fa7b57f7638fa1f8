use Rattle.std.proofs.Common.{◌≡◌, ◌∙◌, ℕ, sym, ap, subst, List, [], ◌∷◌, ◌++◌}
use Rattle.std.specs.Ordering.{nat_cmp}
use Rattle.flow_refs.specs.Origins.{IsEachOnce}
use Rattle.flow_refs.proofs.ForCallers.{two_once}
use Rattle.store_tests.proofs.tests.two.Goals as goal

pub returns : goal.returns
returns c =
    let one : ℕ × List ℕ = (c.args.first, c.in_ok-flows.flows) in
    let other : ℕ × List ℕ = (c.args.second, c.in_ok-others.others) in
    let first = c.in_ok-push.ensures.ok ∙ ap (λ (l : List (ℕ × List ℕ)). l ++ one ∷ []) c.new-changes.ensures in
    let both = c.in_ok-push-2.ensures.ok ∙ ap (λ (l : List (ℕ × List ℕ)). l ++ other ∷ []) first in
    subst (λ (l : List (ℕ × List ℕ)). IsEachOnce nat_cmp l) (sym both) (two_once nat_cmp one other c.requires)
