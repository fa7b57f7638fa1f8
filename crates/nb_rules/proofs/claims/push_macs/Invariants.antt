use Rattle.std.proofs.Common.{◌≡◌, ◌++◌, map, drop}
use Rattle.std.specs.List.{filter_map}
use Rattle.nb_records.specs.Switches as facts
use Rattle.nb_rules.specs.Claims as spec
use Rattle.nb_rules.proofs.claims.push_macs.Given as goal

-- those that are left come behind what there is
abbrev pub invariant-entries : goal.invariant-entries
invariant-entries l = l.claims ++ map (spec.mac_claim l.port) (filter_map (facts.entry_mac (facts.router_port_behind l.records l.port)) (drop l.entry-index l.entry-items)) ≡ l.fn.claims ++ spec.port_macs l.records l.port
