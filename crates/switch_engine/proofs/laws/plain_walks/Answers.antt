use Rattle.switch_engine.proofs.PlainLaw.{plain_walk}
use Rattle.switch_engine.proofs.laws.plain_walks.Goals as goal

pub returns : goal.returns
returns c = plain_walk
