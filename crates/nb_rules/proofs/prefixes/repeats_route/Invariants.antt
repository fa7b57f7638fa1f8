use Rattle.std.proofs.Common.{◌≡◌, ◌&&◌}
use Rattle.std.specs.List.{list_any}
use Rattle.nb_rules.specs.Prefixes as spec
use Rattle.nb_rules.proofs.prefixes.repeats_route.Given as goal

-- those that are left tell it
abbrev pub invariant-routes : goal.invariant-routes
invariant-routes l = list_any (λ e. spec.is_route_before l.route e.1 && spec.same_prefix l.route.prefix e.1.prefix) l.records.routes ≡ list_any (λ e. spec.is_route_before l.route e.1 && spec.same_prefix l.route.prefix e.1.prefix) l._name-iterator
