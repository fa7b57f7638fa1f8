use Rattle.row_laws.proofs.translating.EachAtAny.{each_any_table}
use Rattle.row_laws.proofs.translating.tables_of_any_router_do_so.Goals as goal

pub returns : goal.returns
returns c = each_any_table
