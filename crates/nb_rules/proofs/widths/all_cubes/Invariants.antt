use Rattle.std.proofs.Common.{◌≡◌, ◌+◌, ◌<◌, ◌^◌}
use Rattle.std.specs.List.{sum_by}
use Rattle.match_cubes.specs.Width.{saturated}
use Rattle.nb_rules.specs.Widths as spec
use Rattle.nb_rules.proofs.widths.all_cubes.Given as goal

-- those that are left tell it
abbrev pub invariant-rules : goal.invariant-rules
invariant-rules l = (l.total < 2 ^ 128) × (saturated (spec.all_cubes l.records) ≡ saturated (l.total + sum_by (λ e. spec.cubes_of l.records e.1) l._name-iterator))
