use Rattle.row_laws.proofs.translating.EachAtAny.{each_any_agrees}
use Rattle.row_laws.proofs.translating.rows_of_any_router_agree.Goals as goal

pub returns : goal.returns
returns c = each_any_agrees
