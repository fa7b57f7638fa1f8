use Rattle.row_laws.proofs.routers.EachAtRouter.{each_law}
use Rattle.row_laws.proofs.routers.taken_router_rows.Goals as goal

pub returns : goal.returns
returns c = each_law
