use Rattle.conn_zones.proofs.OneResult.{one_result}
use Rattle.conn_zones.proofs.laws.one_rezoning.Goals as goal

pub returns : goal.returns
returns c = one_result
