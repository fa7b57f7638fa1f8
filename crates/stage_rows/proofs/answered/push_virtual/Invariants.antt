use Rattle.std.proofs.Common.{◌≡◌, ◌++◌, map, flat_map, filter}
use Rattle.std.specs.Map.{values_of}
use Rattle.nb_records.specs.Switches.{serves_at}
use Rattle.stage_rows.specs.Facts.{is_near}
use Rattle.stage_rows.proofs.answered.push_virtual.Given as goal

-- the addresses so far, and those of the balancers that are left
abbrev pub invariant-balancers : goal.invariant-balancers
invariant-balancers l =
    l.ips ++ filter (is_near l.port) (flat_map (λ b. map (λ v. v.at.ip) b.vips) (filter (serves_at l.port.router) (values_of l._name-iterator)))
    ≡ l.fn.ips ++ filter (is_near l.port) (flat_map (λ b. map (λ v. v.at.ip) b.vips) (filter (serves_at l.port.router) (values_of l.records.load_balancers)))
