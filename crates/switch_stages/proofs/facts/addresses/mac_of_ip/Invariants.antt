use Rattle.std.proofs.Common.{◌≡◌, drop}
use Rattle.nb_records.specs.Switches.{first_answer, mac_in_entry}
use Rattle.switch_stages.proofs.facts.addresses.mac_of_ip.Given as goal

-- those that are left tell it
abbrev pub invariant-entries : goal.invariant-entries
invariant-entries l = first_answer (mac_in_entry l.ip) (drop l.entry-index l.entry-items) ≡ first_answer (mac_in_entry l.ip) l.port.addresses
