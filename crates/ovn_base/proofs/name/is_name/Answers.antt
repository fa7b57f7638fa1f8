use Rattle.std.proofs.Common.{rules}
use Rattle.ovn_base.proofs.NameLemmas.{name_answer}
use Rattle.ovn_base.proofs.name.is_name.Goals as goal

pub returns-then-text-le64-clause-exact : goal.returns-then-text-le64-clause-exact
returns-then-text-le64-clause-exact c = name_answer c.args.text.now c.all.result (search rules)
