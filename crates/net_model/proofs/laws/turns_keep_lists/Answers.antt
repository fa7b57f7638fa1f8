use Rattle.net_model.proofs.ListLaws.{turned_keep}
use Rattle.net_model.proofs.laws.turns_keep_lists.Goals as goal

pub returns : goal.returns
returns c = turned_keep
