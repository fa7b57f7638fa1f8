use Rattle.std.proofs.Common.{◌≡◌, ◌++◌, map, drop}
use Rattle.stage_rows.specs.Facts.{own_ips}
use Rattle.stage_rows.specs.RouterRows.{echo_input}
use Rattle.router_stages.proofs.stages.input.push_echoes.Given as goal

-- the rows so far, and those of the networks that are left
abbrev pub invariant-networks : goal.invariant-networks
invariant-networks l = l.out ++ map echo_input (map (λ n. n.addr) (drop l.network-index l.network-items)) ≡ l.fn.out ++ map echo_input (own_ips l.port)
