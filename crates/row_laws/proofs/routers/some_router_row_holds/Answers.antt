use Rattle.row_laws.proofs.routers.EachAtRouter.{each_base}
use Rattle.row_laws.proofs.routers.some_router_row_holds.Goals as goal

pub returns : goal.returns
returns c = each_base
