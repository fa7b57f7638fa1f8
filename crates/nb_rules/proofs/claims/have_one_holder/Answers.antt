use Rattle.std.proofs.Common.{sym, ◌∙◌}
use Rattle.nb_rules.proofs.OneHolder.{one_holder}
use Rattle.nb_rules.proofs.claims.have_one_holder.Goals as goal

pub returns : goal.returns
returns c = λ h. one_holder c.in_ok-index.index.entries c.args.claims.now (sym c.all_hold.ensures ∙ h)
