use Rattle.std.proofs.Common.{◌≡◌, ◌++◌, map, drop}
use Rattle.nb_rules.specs.Claims as spec
use Rattle.nb_rules.proofs.claims.push_vips.Given as goal

-- those that are left come behind what there is
abbrev pub invariant-vips : goal.invariant-vips
invariant-vips l = l.claims ++ spec.claims_to l.records l.port (map (λ v. v.at.ip) (drop l.vip-index l.vips)) ≡ l.fn.claims ++ spec.claims_to l.records l.port (map (λ v. v.at.ip) l.vips)
