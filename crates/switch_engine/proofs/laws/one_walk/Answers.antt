use Rattle.switch_engine.proofs.OneWalkLaw.{walks_one}
use Rattle.switch_engine.proofs.laws.one_walk.Goals as goal

pub returns : goal.returns
returns c = walks_one
