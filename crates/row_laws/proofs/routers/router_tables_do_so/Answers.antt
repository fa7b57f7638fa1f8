use Rattle.row_laws.proofs.routers.EachAtRouter.{each_table}
use Rattle.row_laws.proofs.routers.router_tables_do_so.Goals as goal

pub returns : goal.returns
returns c = each_table
