use Rattle.std.proofs.Common.{◌≡◌, false}
use Rattle.nb_rules.specs.First.{has_second}
use Rattle.nb_rules.specs.Holders as spec
use Rattle.nb_rules.proofs.holders.has_two_bindings.Given as goal

-- those that are left tell it
abbrev pub invariant-bindings : goal.invariant-bindings
invariant-bindings l = has_second (λ e. spec.binds l.port l.ip e.1) false l.records.static_macs ≡ has_second (λ e. spec.binds l.port l.ip e.1) l.seen l._name-iterator
