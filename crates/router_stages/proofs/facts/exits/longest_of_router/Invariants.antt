use Rattle.std.proofs.Common.{◌≡◌}
use Rattle.router_stages.specs.Exits.{longest, or_longer, exits_among}
use Rattle.router_stages.proofs.facts.exits.longest_of_router.Given as goal

-- the longest so far and those of the ports that are left
abbrev pub invariant-ports : goal.invariant-ports
invariant-ports l = or_longer l.best (longest (exits_among l._name-iterator l.router l.ip)) ≡ longest (exits_among l.records.router_ports l.router l.ip)
