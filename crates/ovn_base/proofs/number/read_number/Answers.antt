use Rattle.std.proofs.Common.{arith}
use Rattle.ovn_base.proofs.DecimalLemmas.{spelled_is}
use Rattle.ovn_base.proofs.number.read_number.Goals as goal

pub returns-clause-exact : goal.returns-clause-exact
returns-clause-exact c = spelled_is c.args.text.now c.args.most (omega arith) c.number_of.result c.number_of.ensures.found c.number_of.ensures.none
