use Rattle.nb_rules.proofs.Validity.{unbroken}
use Rattle.nb_rules.proofs.laws.nothing_broken.Goals as goal

pub returns : goal.returns
returns c = λ net ops. unbroken net ops
