use Rattle.std.proofs.Common.{◌≡◌}
use Rattle.net_model.specs.Hops.{best_leg, or_better, route_legs}
use Rattle.net_model.proofs.hops.best_route.Given as goal

-- the best so far and those of the routes that are left
abbrev pub invariant-routes : goal.invariant-routes
invariant-routes l = or_better l.best (best_leg (route_legs l.records l.router l.dst l._name-iterator)) ≡ best_leg (route_legs l.records l.router l.dst l.records.routes)
