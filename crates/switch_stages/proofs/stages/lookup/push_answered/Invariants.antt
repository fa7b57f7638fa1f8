use Rattle.std.proofs.Common.{◌≡◌, ◌++◌, map, drop}
use Rattle.stage_rows.specs.SwitchRows.{answered_lookup}
use Rattle.switch_stages.proofs.stages.lookup.push_answered.Given as goal

-- the rows so far, and those of the addresses that are left
abbrev pub invariant-ips : goal.invariant-ips
invariant-ips l = l.out ++ map (answered_lookup l.port) (drop l.ip-index l.ips) ≡ l.fn.out ++ map (answered_lookup l.port) l.ips
