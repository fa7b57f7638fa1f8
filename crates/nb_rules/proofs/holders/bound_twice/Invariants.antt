use Rattle.std.proofs.Common.{◌≡◌}
use Rattle.nb_rules.specs.First.{least_of}
use Rattle.nb_rules.specs.Holders as spec
use Rattle.nb_rules.proofs.holders.bound_twice.Given as goal

-- those that are left tell it
abbrev pub invariant-bindings : goal.invariant-bindings
invariant-bindings l = spec.bound_twice l.records l.port ≡ least_of spec.ip_number spec.bound_ip (λ e. spec.is_bound_twice l.records l.port e.1) l.least l._name-iterator
