use Rattle.std.proofs.Common.{◌≡◌, drop}
use Rattle.nb_rules.specs.First.{least_of}
use Rattle.nb_rules.specs.Holders as spec
use Rattle.nb_rules.proofs.holders.repeated_ip.Given as goal

-- those that are left tell it
abbrev pub invariant-networks : goal.invariant-networks
invariant-networks l = spec.repeated_ip l.records l.port ≡ least_of spec.ip_number spec.network_ip (spec.is_repeated_ip l.records l.port) l.least (drop l.network-index l.network-items)
