use Rattle.std.proofs.Common.{◌≡◌, ◌++◌, drop}
use Rattle.nb_rules.specs.Claims as spec
use Rattle.nb_rules.proofs.claims.push_ips.Given as goal

-- those that are left come behind what there is
abbrev pub invariant-ips : goal.invariant-ips
invariant-ips l = l.claims ++ spec.claims_to l.records l.port (drop l.ip-index l.ips) ≡ l.fn.claims ++ spec.claims_to l.records l.port l.ips
