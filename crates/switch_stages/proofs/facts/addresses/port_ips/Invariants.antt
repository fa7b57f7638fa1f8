use Rattle.std.proofs.Common.{◌≡◌, ◌++◌, drop, flat_map}
use Rattle.nb_records.specs.Switches.{ips_in_entry}
use Rattle.switch_stages.proofs.facts.addresses.port_ips.Given as goal

-- the addresses so far, and those of the entries that are left
abbrev pub invariant-entries : goal.invariant-entries
invariant-entries l = l.ips ++ flat_map ips_in_entry (drop l.entry-index l.entry-items) ≡ flat_map ips_in_entry l.port.addresses
