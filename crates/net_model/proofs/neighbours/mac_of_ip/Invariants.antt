use Rattle.std.proofs.Common.{◌≡◌}
use Rattle.nb_records.specs.Switches.{first_answer, mac_in_entry}
use Rattle.net_model.proofs.neighbours.mac_of_ip.Given as goal

-- those that are left tell it
abbrev pub invariant-entries : goal.invariant-entries
invariant-entries l = first_answer (mac_in_entry l.ip) l.entry-iterator.rest.now ≡ first_answer (mac_in_entry l.ip) l.port.addresses
