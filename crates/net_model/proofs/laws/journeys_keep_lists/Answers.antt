use Rattle.net_model.proofs.ListJourneys.{travels_keep}
use Rattle.net_model.proofs.laws.journeys_keep_lists.Goals as goal

pub returns : goal.returns
returns c = travels_keep
