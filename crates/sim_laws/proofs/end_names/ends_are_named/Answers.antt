use Rattle.sim_laws.proofs.end_names.ends_are_named.Goals as goal
use Rattle.sim_laws.proofs.told.Named.{travels_named}

pub returns : goal.returns
returns c = λ m traffic ends after valid names travels. travels_named m valid names traffic ends after travels
