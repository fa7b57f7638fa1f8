use Rattle.std.proofs.Common.{◌≡◌, ◌&&◌}
use Rattle.std.specs.List.{list_any}
use Rattle.nb_rules.specs.Holders.{is_router_mate}
use Rattle.nb_rules.specs.Prefixes as spec
use Rattle.nb_rules.proofs.prefixes.is_mates.Given as goal

-- those that are left tell it
abbrev pub invariant-ports : goal.invariant-ports
invariant-ports l = list_any (λ e. is_router_mate l.port e.1 && list_any (spec.same_prefix l.prefix) e.1.networks) l.records.router_ports ≡ list_any (λ e. is_router_mate l.port e.1 && list_any (spec.same_prefix l.prefix) e.1.networks) l._name-iterator
