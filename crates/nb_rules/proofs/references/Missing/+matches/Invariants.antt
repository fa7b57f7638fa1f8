use Rattle.std.proofs.Common.{◌≡◌, drop}
use Rattle.std.specs.List.{flat_map}
use Rattle.nb_rules.specs.References as spec
use Rattle.nb_rules.proofs.references.Missing.+matches.Given as goal

-- those that are left tell it
abbrev pub invariant-in_terms-loop-term : goal.invariant-in_terms-loop-term
invariant-in_terms-loop-term l = spec.first_named (spec.is_missing l.self.records.now l.self.ops.now l.self.removed) (flat_map spec.match_references l.terms) ≡ spec.first_named (spec.is_missing l.self.records.now l.self.ops.now l.self.removed) (flat_map spec.match_references (drop l.term-index l.terms))
