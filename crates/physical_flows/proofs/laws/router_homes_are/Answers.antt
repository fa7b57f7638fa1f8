use Rattle.physical_flows.proofs.HomedRouters.{router_homes_exact, router_homes_found, router_homes_order, router_names, zones_fit}
use Rattle.physical_flows.proofs.laws.router_homes_are.Goals as goal

pub returns-clause-order : goal.returns-clause-order
returns-clause-order c = router_homes_order

pub returns-clause-found : goal.returns-clause-found
returns-clause-found c = router_homes_found

pub returns-clause-homes : goal.returns-clause-homes
returns-clause-homes c = router_homes_exact

pub returns-clause-names : goal.returns-clause-names
returns-clause-names c = router_names

pub returns-clause-zones_fit : goal.returns-clause-zones_fit
returns-clause-zones_fit c = zones_fit
