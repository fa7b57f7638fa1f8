use Rattle.address_sets.proofs.Differences.{one_answer}
use Rattle.address_sets.proofs.laws.one_list_differs.Goals as goal

pub returns : goal.returns
returns g c old new a b f h = one_answer old new a b f h
