use Rattle.std.proofs.Common.{sym, ◌∙◌}
use Rattle.match_language.proofs.Only.{whole_only}
use Rattle.match_language.proofs.Steps.{ok_is}
use Rattle.match_language.proofs.reader.one_expression.Goals as goal

pub returns : goal.returns
returns c = λ way text x y h k. ok_is x y (sym (whole_only way text x h) ∙ whole_only way text y k)
