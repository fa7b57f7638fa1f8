use Rattle.std.proofs.Common.{◌≡◌, ◌&&◌, ◌||◌}
use Rattle.std.specs.List.{list_any}
use Rattle.nb_rules.specs.Prefixes as spec
use Rattle.nb_rules.proofs.prefixes.repeats_nat.Given as goal

-- those that are left tell it
abbrev pub invariant-rows : goal.invariant-rows
invariant-rows l = list_any (λ e. spec.is_nat_before l.nat e.1 && (spec.same_sources l.nat e.1 || spec.same_destination l.nat e.1)) l.records.nats ≡ list_any (λ e. spec.is_nat_before l.nat e.1 && (spec.same_sources l.nat e.1 || spec.same_destination l.nat e.1)) l._name-iterator
