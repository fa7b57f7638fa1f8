use Rattle.std.specs.Prelude.{◌≡◌, ◌++◌, drop, flat_map}
use Rattle.nb_records.specs.Switches.{ips_in_entry}
use Rattle.stage_rows.specs.Facts.{port_ips}
use Rattle.northd_core.proofs.neighbours.push_port_ips.Given as goal

-- the addresses so far, and those of the entries that are left
abbrev pub invariant-entries : goal.invariant-entries
invariant-entries l = l.ips ++ flat_map ips_in_entry (drop l.entry-index l.entry-items) ≡ l.fn.ips ++ port_ips l.port
