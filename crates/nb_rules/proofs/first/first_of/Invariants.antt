use Rattle.std.proofs.Common.{◌≡◌}
use Rattle.nb_rules.specs.First as spec
use Rattle.nb_rules.proofs.first.first_of.Given as goal

-- those that are left tell it
abbrev pub invariant-loop-name : goal.invariant-loop-name
invariant-loop-name g l = spec.first_of (g.C.Clause.broken l.clause) l.records.entries ≡ spec.first_of (g.C.Clause.broken l.clause) l._name-iterator
