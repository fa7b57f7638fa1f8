use Rattle.std.proofs.Common.{◌≡◌, false, drop}
use Rattle.nb_rules.specs.First.{has_second}
use Rattle.nb_rules.specs.Prefixes as spec
use Rattle.nb_rules.proofs.prefixes.stands_twice.Given as goal

-- those that are left tell it
abbrev pub invariant-networks : goal.invariant-networks
invariant-networks l = has_second (spec.same_prefix l.prefix) false l.networks ≡ has_second (spec.same_prefix l.prefix) l.seen (drop l.network-index l.networks)
