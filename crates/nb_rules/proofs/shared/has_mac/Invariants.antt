use Rattle.std.proofs.Common.{◌≡◌, drop}
use Rattle.std.specs.List.{list_any, filter_map}
use Rattle.nb_records.specs.Switches as facts
use Rattle.nb_rules.proofs.shared.has_mac.Given as goal

-- those that are left tell it
abbrev pub invariant-entries : goal.invariant-entries
invariant-entries l = list_any (facts.same_mac l.mac) (filter_map (facts.entry_mac (facts.router_port_behind l.records l.port)) l.port.addresses) ≡ list_any (facts.same_mac l.mac) (filter_map (facts.entry_mac (facts.router_port_behind l.records l.port)) (drop l.entry-index l.entry-items))
