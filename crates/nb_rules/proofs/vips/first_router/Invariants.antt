use Rattle.std.proofs.Common.{◌≡◌}
use Rattle.nb_rules.specs.First.{first_of}
use Rattle.nb_rules.specs.Holders as spec
use Rattle.nb_rules.proofs.vips.first_router.Given as goal

-- those that are left tell it
abbrev pub invariant-routers : goal.invariant-routers
invariant-routers l = first_of (λ r. spec.vip_holder l.records r.name) l.records.routers ≡ first_of (λ r. spec.vip_holder l.records r.name) l._name-iterator
