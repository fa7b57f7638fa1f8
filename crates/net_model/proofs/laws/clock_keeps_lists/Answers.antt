use Rattle.net_model.proofs.ListLaws.{clocked_keep}
use Rattle.net_model.proofs.laws.clock_keeps_lists.Goals as goal

pub returns : goal.returns
returns c = clocked_keep
