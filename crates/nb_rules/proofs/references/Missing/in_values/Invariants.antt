use Rattle.std.proofs.Common.{◌≡◌, drop}
use Rattle.std.specs.List.{flat_map}
use Rattle.nb_rules.specs.References as spec
use Rattle.nb_rules.proofs.references.Missing.in_values.Given as goal

-- those that are left tell it
abbrev pub invariant-loop-value : goal.invariant-loop-value
invariant-loop-value l = spec.first_named (spec.is_missing l.self.records.now l.self.ops.now l.self.removed) (flat_map spec.value_references l.values) ≡ spec.first_named (spec.is_missing l.self.records.now l.self.ops.now l.self.removed) (flat_map spec.value_references (drop l.value-index l.values))
