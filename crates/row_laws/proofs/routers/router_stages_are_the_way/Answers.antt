use Rattle.row_laws.proofs.routers.ThroughRouter.{through_router_law, intake_is}
use Rattle.row_laws.proofs.routers.TranslatesNothing.{translates_nothing}
use Rattle.row_laws.proofs.routers.router_stages_are_the_way.Goals as goal

pub returns-clause-through : goal.returns-clause-through
returns-clause-through c = through_router_law

pub returns-clause-translates_nothing : goal.returns-clause-translates_nothing
returns-clause-translates_nothing c = translates_nothing

pub returns-clause-intake : goal.returns-clause-intake
returns-clause-intake c = intake_is
