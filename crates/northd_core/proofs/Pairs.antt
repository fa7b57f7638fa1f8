-- Equal pairs are the same.
use Rattle.std.specs.Prelude.{◌≡◌, ◌↔◌, true}
use Rattle.std.proofs.Common.{ap}
use Rattle.std.proofs.lemmas.Bool.{and_from}
use Rattle.ovn_base.proofs.Exact.{pair_exact}
use Rattle.ovn_base.specs.contracts.name.NamePartialEq.TheImpl as of_name
use Rattle.ovn_base.specs.declared.name.Name.{Name}
use Rattle.logical_flows.specs.declared.flow.LFlow.{LFlow}
use Rattle.northd_core.specs.Held.{same_flow, same_pair}

pub exact_pair : ((f g : LFlow) → (same_flow f g ≡ true) ↔ (f ≡ g)) → ((a b : Name) → (of_name.ghosts.eq a b ≡ true) ↔ (a ≡ b)) → (p q : LFlow × Name) → (same_pair p q ≡ true) ↔ (p ≡ q)
exact_pair flows names p q = (
  pair_exact same_flow of_name.ghosts.eq (λ f g. (flows f g).0) (λ a b. (names a b).0) p q,
  λ e. and_from (same_flow p.0 q.0) (of_name.ghosts.eq p.1 q.1) ((flows p.0 q.0).1 (ap (λ (x : LFlow × Name). x.0) e)) ((names p.1 q.1).1 (ap (λ (x : LFlow × Name). x.1) e)),
)
