use Rattle.std.proofs.Common.{◌≡◌, ◌++◌, map, drop}
use Rattle.stage_rows.proofs.answered.push_own.Given as goal

-- the addresses so far, and those of the networks that are left
abbrev pub invariant-networks : goal.invariant-networks
invariant-networks l = l.ips ++ map (λ n. n.addr) (drop l.network-index l.network-items) ≡ l.fn.ips ++ map (λ n. n.addr) l.port.networks
