use Rattle.std.proofs.Common.{◌≡◌, drop}
use Rattle.nb_rules.specs.Holders as spec
use Rattle.nb_rules.proofs.shared.least_in.Given as goal

-- those that are left tell it
abbrev pub invariant-ips : goal.invariant-ips
invariant-ips l = spec.least_shared l.records l.port l.fn.so_far l.ips ≡ spec.least_shared l.records l.port l.least (drop l.ip-index l.ips)
