use Rattle.net_model.proofs.VisitLeads.{arrival_later}
use Rattle.net_model.proofs.laws.arrivals_only_add.Goals as goal

-- src/laws.rt:35:1
pub returns : goal.returns
returns c = arrival_later
