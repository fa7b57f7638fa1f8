use Rattle.std.proofs.Common.{◌≡◌, ◌++◌, drop}
use Rattle.std.specs.List.{flat_map}
use Rattle.nb_rules.specs.Claims as spec
use Rattle.nb_records.specs.Switches.{ips_in_entry}
use Rattle.nb_rules.proofs.claims.push_entries.Given as goal

-- those that are left come behind what there is
abbrev pub invariant-entries : goal.invariant-entries
invariant-entries l = l.claims ++ spec.claims_to l.records l.port (flat_map ips_in_entry (drop l.entry-index l.entries)) ≡ l.fn.claims ++ spec.claims_to l.records l.port (flat_map ips_in_entry l.entries)
