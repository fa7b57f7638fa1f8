use Rattle.std.proofs.Common.{◌≡◌, false, drop}
use Rattle.nb_records.specs.Switches.{same_ip}
use Rattle.nb_rules.specs.First.{has_second}
use Rattle.nb_rules.proofs.holders.stands_twice.Given as goal

-- those that are left tell it
abbrev pub invariant-networks : goal.invariant-networks
invariant-networks l = has_second (λ m. same_ip l.ip m.addr) false l.networks ≡ has_second (λ m. same_ip l.ip m.addr) l.seen (drop l.network-index l.networks)
