use Rattle.std.proofs.Common.{◌≡◌}
use Rattle.nb_rules.specs.Holders as spec
use Rattle.nb_rules.proofs.vips.repeated_vip.Given as goal

-- those that are left tell it
abbrev pub invariant-balancers : goal.invariant-balancers
invariant-balancers l = spec.repeated_vip l.records l.datapath ≡ spec.repeated_vip_from l.records l.datapath l.least l._name-iterator
