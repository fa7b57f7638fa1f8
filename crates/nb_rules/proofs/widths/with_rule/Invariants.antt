use Rattle.std.proofs.Common.{◌≡◌, ◌+◌, ◌<◌, ◌^◌}
use Rattle.std.specs.List.{sum_by}
use Rattle.match_cubes.specs.Width.{saturated}
use Rattle.nb_rules.specs.Widths as spec
use Rattle.nb_rules.proofs.widths.with_rule.Given as goal

-- those that are left tell it
abbrev pub invariant-switches : goal.invariant-switches
invariant-switches l = (l.total < 2 ^ 128) × (saturated (l.fn.so_far + spec.cubes_of l.records l.rule) ≡ saturated (l.total + sum_by (λ e. spec.cubes_on l.records l.rule e.1) l._name-iterator))
