use Rattle.sim_laws.proofs.router_lists.Dnats.{dnats}
use Rattle.sim_laws.proofs.router_lists.Snats.{seeks_so, snats}
use Rattle.sim_laws.proofs.router_lists.Undoing.{undoes}
use Rattle.sim_laws.proofs.routers.router_lists_translate.Goals as goal

pub returns-clause-undoes : goal.returns-clause-undoes
returns-clause-undoes c = undoes

pub returns-clause-destinations : goal.returns-clause-destinations
returns-clause-destinations c = dnats

pub returns-clause-seeks : goal.returns-clause-seeks
returns-clause-seeks c = seeks_so

pub returns-clause-sources : goal.returns-clause-sources
returns-clause-sources c = snats
