use Rattle.std.proofs.Common.{◌≡◌}
use Rattle.router_stages.specs.Exits.{longest, or_longer, exits_over}
use Rattle.router_stages.proofs.facts.exits.longest_of_port.Given as goal

-- the longest so far and those of the networks that are left
abbrev pub invariant-networks : goal.invariant-networks
invariant-networks l = or_longer l.best (longest (exits_over l.port l.ip l.network-iterator.rest.now)) ≡ longest (exits_over l.port l.ip l.port.networks)
