use Rattle.std.proofs.Common.{sym, ◌∙◌}
use Rattle.edit_reader.specs.Operations.{only_added}
use Rattle.edit_reader.proofs.field_names.only_acl.Goals as goal

pub returns-then-has : goal.returns-then-has
unfolding only_added
returns-then-has c = rw (sym c.has.ensures ∙ c.if-has.true) c.only.ensures

pub returns-then-has-2 : goal.returns-then-has-2
unfolding only_added
returns-then-has-2 c = rw (sym c.has.ensures ∙ c.if-has.false, sym c.has-2.ensures ∙ c.if-has-2.true) c.only-then-has-2.ensures

pub returns : goal.returns
unfolding only_added
returns c = rw (sym c.has.ensures ∙ c.if-has.false, sym c.has-2.ensures ∙ c.if-has-2.false) c.only-2.ensures
