use Rattle.ovn_base.proofs.NameLemmas.{same_name, found_name}
use Rattle.ovn_base.proofs.name.exact_name.Goals as goal

pub returns-clause-order : goal.returns-clause-order
returns-clause-order c = λ a b. (same_name a b, found_name a b)
