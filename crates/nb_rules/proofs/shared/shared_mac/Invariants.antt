use Rattle.std.proofs.Common.{◌≡◌, drop}
use Rattle.std.specs.List.{filter_map}
use Rattle.nb_records.specs.Switches as facts
use Rattle.nb_rules.specs.First.{least_of}
use Rattle.nb_rules.specs.Holders as spec
use Rattle.nb_rules.proofs.shared.shared_mac.Given as goal

-- those that are left tell it
abbrev pub invariant-entries : goal.invariant-entries
invariant-entries l = spec.shared_mac l.records l.port ≡ least_of spec.mac_number_of spec.the_mac (spec.is_mac_shared l.records l.port) l.least (filter_map (facts.entry_mac (facts.router_port_behind l.records l.port)) (drop l.entry-index l.entry-items))
