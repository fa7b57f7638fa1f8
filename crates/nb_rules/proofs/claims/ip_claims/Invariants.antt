use Rattle.std.proofs.Common.{◌≡◌, ◌++◌}
use Rattle.std.specs.List.{flat_map}
use Rattle.nb_rules.specs.Claims as spec
use Rattle.nb_rules.proofs.claims.ip_claims.Given as goal

-- those that are left come behind what there is
abbrev pub invariant-ports : goal.invariant-ports
invariant-ports l = l.claims ++ flat_map (λ e. spec.port_ips l.records e.1) l._name-iterator ≡ spec.ip_claims l.records
