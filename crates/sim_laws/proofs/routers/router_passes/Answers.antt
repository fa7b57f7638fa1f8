use Rattle.sim_laws.proofs.router_passes.Passing.{all_pass}
use Rattle.sim_laws.proofs.router_passes.Patching.{patches_so}
use Rattle.sim_laws.proofs.router_passes.Through.{goes_through}
use Rattle.sim_laws.proofs.routers.router_passes.Goals as goal

pub returns-clause-patches : goal.returns-clause-patches
returns-clause-patches c = patches_so

pub returns-clause-through : goal.returns-clause-through
returns-clause-through c = goes_through c.router_pipelines.ensures.out_as_told

pub returns-clause-on_and_on : goal.returns-clause-on_and_on
returns-clause-on_and_on c = all_pass c.router_pipelines.ensures.first c.router_pipelines.ensures.in_as_told (goes_through c.router_pipelines.ensures.out_as_told) patches_so
