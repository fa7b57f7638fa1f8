use Rattle.std.proofs.Common.{◌≡◌, ◌&&◌}
use Rattle.std.specs.List.{list_any}
use Rattle.ovn_base.specs.names.SameName.{same_name}
use Rattle.nb_records.specs.Routers.{contains}
use Rattle.nb_rules.proofs.prefixes.has_network.Given as goal

-- those that are left tell it
abbrev pub invariant-ports : goal.invariant-ports
invariant-ports l = list_any (λ e. same_name e.1.router l.route.router && list_any (λ n. contains n l.route.nexthop) e.1.networks) l.records.router_ports ≡ list_any (λ e. same_name e.1.router l.route.router && list_any (λ n. contains n l.route.nexthop) e.1.networks) l._name-iterator
