use Rattle.std.proofs.Common.{◌≡◌, ◌++◌, map, drop}
use Rattle.std.specs.List.{filter_map}
use Rattle.nb_records.specs.Switches.{entry_mac, router_port_behind}
use Rattle.stage_rows.specs.SwitchRows.{address_lookup}
use Rattle.switch_stages.proofs.stages.lookup.push_macs.Given as goal

-- the rows so far, and those of the entries that are left
abbrev pub invariant-entries : goal.invariant-entries
invariant-entries l =
    l.out ++ map (address_lookup l.port) (filter_map (entry_mac (router_port_behind l.records l.port)) (drop l.entry-index l.entry-items))
    ≡ l.fn.out ++ map (address_lookup l.port) (filter_map (entry_mac (router_port_behind l.records l.port)) l.port.addresses)
