use Rattle.match_language.proofs.Depth.{spelled_fits}
use Rattle.match_language.proofs.reader.spelled_fits.Goals as goal

pub returns : goal.returns
returns c = λ way text x h. spelled_fits way text x h
