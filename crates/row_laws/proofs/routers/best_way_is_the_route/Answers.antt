use Rattle.row_laws.proofs.routers.BestWays.{best_way_law}
use Rattle.row_laws.proofs.routers.best_way_is_the_route.Goals as goal

pub returns : goal.returns
returns c = best_way_law
