use Rattle.std.proofs.Common.{◌≡◌, ◌++◌, map, filter, drop}
use Rattle.stage_rows.specs.Facts.{is_near}
use Rattle.stage_rows.proofs.answered.push_near_vips.Given as goal

-- the addresses so far, and those that are left
abbrev pub invariant-vips : goal.invariant-vips
invariant-vips l = l.ips ++ filter (is_near l.port) (map (λ v. v.at.ip) (drop l.vip-index l.vips)) ≡ l.fn.ips ++ filter (is_near l.port) (map (λ v. v.at.ip) l.vips)
