use Rattle.std.proofs.Common.{◌≡◌, ◌++◌, map, flat_map, drop}
use Rattle.stage_rows.specs.SwitchRows.{may_send_from}
use Rattle.switch_stages.specs.SecurityRows.{send_row}
use Rattle.switch_stages.proofs.stages.port_security.push_send_from_each.Given as goal

-- the rows so far, and those of the prefixes that are left
abbrev pub invariant-prefixes : goal.invariant-prefixes
invariant-prefixes l =
    l.out ++ map (send_row l.port l.entry) (flat_map (may_send_from l.entry) (drop l.prefix-index l.prefixes))
    ≡ l.fn.out ++ map (send_row l.port l.entry) (flat_map (may_send_from l.entry) l.prefixes)
