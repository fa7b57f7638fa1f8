use Rattle.conn_zones.proofs.OneResult.{keeps_all}
use Rattle.conn_zones.proofs.laws.unnamed_stay.Goals as goal

pub returns : goal.returns
returns c = keeps_all
