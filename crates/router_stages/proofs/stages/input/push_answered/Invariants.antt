use Rattle.std.proofs.Common.{◌≡◌, ◌++◌, map, drop}
use Rattle.stage_rows.specs.RouterRows.{answered_input}
use Rattle.router_stages.proofs.stages.input.push_answered.Given as goal

-- the rows so far, and those of the addresses that are left
abbrev pub invariant-ips : goal.invariant-ips
invariant-ips l = l.out ++ map (answered_input l.port) (drop l.ip-index l.ips) ≡ l.fn.out ++ map (answered_input l.port) l.ips
