use Rattle.std.proofs.Common.{◌≡◌, map, drop}
use Rattle.nb_rules.specs.Holders as spec
use Rattle.nb_rules.proofs.shared.least_in_vips.Given as goal

-- those that are left tell it
abbrev pub invariant-vips : goal.invariant-vips
invariant-vips l = spec.least_shared l.records l.port l.fn.so_far (map (λ v. v.at.ip) l.vips) ≡ spec.least_shared l.records l.port l.least (map (λ v. v.at.ip) (drop l.vip-index l.vips))
