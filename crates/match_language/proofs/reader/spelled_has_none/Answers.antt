use Rattle.match_language.proofs.FirstFaults.{none_spelled}
use Rattle.match_language.proofs.reader.spelled_has_none.Goals as goal

pub returns : goal.returns
returns c = λ way text x f h k. none_spelled way text x f h k
