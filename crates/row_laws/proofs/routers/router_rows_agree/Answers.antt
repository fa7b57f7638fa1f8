use Rattle.row_laws.proofs.routers.EachAtRouter.{each_agrees}
use Rattle.row_laws.proofs.routers.router_rows_agree.Goals as goal

pub returns : goal.returns
returns c = each_agrees
