use Rattle.std.proofs.Common.{◌∙◌, sym}
use Rattle.std.proofs.lemmas.Bool.{false≢true}
use Rattle.address_sets.proofs.Differences.{one_put}
use Rattle.address_sets.proofs.changed.put_if_other.Goals as goal

pub returns : goal.returns
returns g c = one_put c.args.names.now.keys c.insert.new.self.keys c.args.name.now (λ e. false≢true (sym c.if-are_same.false ∙ c.are_same.ensures.1 (c.members_at.ensures ∙ e ∙ sym c.members.ensures))) c.in_ok-insert.ensures.keys
