use Rattle.std.specs.Prelude.{◌≡◌, ◌++◌, filter, flat_map}
use Rattle.std.specs.Map.{values_of}
use Rattle.ovn_base.specs.names.SameName.{same_name}
use Rattle.nb_records.specs.Switches.{enabled_ports, is_virtual}
use Rattle.nb_records.specs.declared.switch.SwitchPort.{SwitchPort}
use Rattle.stage_rows.specs.Facts.{port_ips}
use Rattle.northd_core.proofs.neighbours.push_virtual.Given as goal

-- the addresses so far, and those of the ports that are left
abbrev pub invariant-ports : goal.invariant-ports
invariant-ports l =
    l.ips ++ flat_map port_ips (filter is_virtual (filter (λ (q : SwitchPort). q.enabled) (filter (λ (q : SwitchPort). same_name q.switch l.switch) (values_of l._name-iterator))))
    ≡ l.fn.ips ++ flat_map port_ips (filter is_virtual (enabled_ports l.records l.switch))
