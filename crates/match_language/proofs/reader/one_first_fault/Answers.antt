use Rattle.match_language.proofs.FirstFaults.{one_first}
use Rattle.match_language.proofs.reader.one_first_fault.Goals as goal

pub returns : goal.returns
returns c = λ way text f g h k. one_first way text f g h k
