use Rattle.std.proofs.Common.{◌≡◌, ◌++◌, flat_map, drop}
use Rattle.stage_rows.specs.SwitchRows.{entry_security_out}
use Rattle.switch_stages.proofs.stages.security_out.push_entries.Given as goal

-- the rows so far, and those of the entries that are left
abbrev pub invariant-entries : goal.invariant-entries
invariant-entries l = l.out ++ flat_map (entry_security_out l.port) (drop l.entry-index l.entries) ≡ l.fn.out ++ flat_map (entry_security_out l.port) l.entries
