use Rattle.std.proofs.Common.{◌≡◌}
use Rattle.nb_rules.specs.Holders as spec
use Rattle.nb_rules.proofs.shared.least_in_balancers.Given as goal

-- those that are left tell it
abbrev pub invariant-balancers : goal.invariant-balancers
invariant-balancers l = spec.least_of_balancers l.records l.port l.router l.fn.so_far l.records.load_balancers ≡ spec.least_of_balancers l.records l.port l.router l.least l._name-iterator
