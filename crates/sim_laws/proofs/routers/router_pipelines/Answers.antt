use Rattle.sim_laws.proofs.router_stages.FirstInRouter.{stands_first}
use Rattle.sim_laws.proofs.routers.router_pipelines.Goals as goal
use Rattle.sim_laws.proofs.translating_stages.AnyEntry.{any_ingress}
use Rattle.sim_laws.proofs.translating_stages.AnyOut.{any_egress}
use Rattle.sim_laws.proofs.translating_stages.AnyWays.{ways_are}

pub returns-clause-first : goal.returns-clause-first
returns-clause-first c = stands_first

pub returns-clause-in_as_told : goal.returns-clause-in_as_told
returns-clause-in_as_told c = any_ingress c.tables_of_any_router_do_so.ensures c.router_stages_are_the_way.ensures.intake

pub returns-clause-out_as_told : goal.returns-clause-out_as_told
returns-clause-out_as_told c = any_egress c.tables_of_any_router_do_so.ensures

pub returns-clause-whole : goal.returns-clause-whole
returns-clause-whole c = ways_are
