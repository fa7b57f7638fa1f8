use Rattle.std.proofs.Common.{◌≡◌}
use Rattle.net_model.specs.Hops.{best_leg, or_better, network_legs}
use Rattle.net_model.proofs.hops.best_network.Given as goal

-- the best so far and those of the ports that are left
abbrev pub invariant-ports : goal.invariant-ports
invariant-ports l = or_better l.best (best_leg (network_legs l._name-iterator l.router l.dst)) ≡ best_leg (network_legs l.records.router_ports l.router l.dst)
