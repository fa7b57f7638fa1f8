use Rattle.tunnel_keys.proofs.Births.{keys_born}
use Rattle.tunnel_keys.proofs.laws.births_after.Goals as goal

pub returns : goal.returns
returns c = keys_born
