use Rattle.row_laws.proofs.translating.EachAtAny.{each_any_law}
use Rattle.row_laws.proofs.translating.taken_rows_of_any_router.Goals as goal

pub returns : goal.returns
returns c = each_any_law
