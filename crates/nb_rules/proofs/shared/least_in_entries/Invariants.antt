use Rattle.std.proofs.Common.{◌≡◌, None, drop}
use Rattle.std.specs.List.{flat_map}
use Rattle.nb_records.specs.Switches.{ips_in_entry}
use Rattle.nb_rules.specs.Holders as spec
use Rattle.nb_rules.proofs.shared.least_in_entries.Given as goal

-- those that are left tell it
abbrev pub invariant-entries : goal.invariant-entries
invariant-entries l = spec.least_shared l.records l.port None (flat_map ips_in_entry l.port.addresses) ≡ spec.least_shared l.records l.port l.least (flat_map ips_in_entry (drop l.entry-index l.entry-items))
