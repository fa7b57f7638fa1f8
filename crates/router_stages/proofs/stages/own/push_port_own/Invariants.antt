use Rattle.std.proofs.Common.{◌≡◌, ◌++◌, map, drop}
use Rattle.stage_rows.specs.Facts.{own_ips}
use Rattle.stage_rows.specs.RouterRows.{own_row}
use Rattle.router_stages.proofs.stages.own.push_port_own.Given as goal

-- the rows so far, and those of the networks that are left
abbrev pub invariant-networks : goal.invariant-networks
invariant-networks l = l.out ++ map own_row (map (λ n. n.addr) (drop l.network-index l.network-items)) ≡ l.fn.out ++ map own_row (own_ips l.port)
