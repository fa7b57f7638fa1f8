use Rattle.std.proofs.Common.{◌≡◌}
use Rattle.nb_rules.specs.First.{first_of}
use Rattle.nb_rules.specs.Holders as spec
use Rattle.nb_rules.proofs.vips.first_switch.Given as goal

-- those that are left tell it
abbrev pub invariant-switches : goal.invariant-switches
invariant-switches l = first_of (λ s. spec.vip_holder l.records s.name) l.records.switches ≡ first_of (λ s. spec.vip_holder l.records s.name) l._name-iterator
