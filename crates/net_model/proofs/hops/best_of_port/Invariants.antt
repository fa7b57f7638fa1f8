use Rattle.std.proofs.Common.{◌≡◌}
use Rattle.net_model.specs.Hops.{best_leg, or_better, legs_over}
use Rattle.net_model.proofs.hops.best_of_port.Given as goal

-- the best so far and those of the networks that are left
abbrev pub invariant-networks : goal.invariant-networks
invariant-networks l = or_better l.best (best_leg (legs_over l.port.name l.dst l.network-iterator.rest.now)) ≡ best_leg (legs_over l.port.name l.dst l.port.networks)
