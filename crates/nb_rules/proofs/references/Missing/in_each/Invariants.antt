use Rattle.std.proofs.Common.{◌≡◌, drop}
use Rattle.nb_rules.specs.References as spec
use Rattle.nb_rules.proofs.references.Missing.in_each.Given as goal

-- those that are left tell it
abbrev pub invariant-loop-name : goal.invariant-loop-name
invariant-loop-name l = spec.first_named (spec.is_missing l.self.records.now l.self.ops.now l.self.removed) (spec.to_each l.kind l.names) ≡ spec.first_named (spec.is_missing l.self.records.now l.self.ops.now l.self.removed) (spec.to_each l.kind (drop l.name-index l.names))
