use Rattle.match_language.proofs.FirstFaults.{spelled_or}
use Rattle.match_language.proofs.reader.spelled_or_faulty.Goals as goal

pub returns : goal.returns
returns c = λ way text. spelled_or way text
