use Rattle.std.proofs.Common.{◌≡◌}
use Rattle.net_model.specs.Nearby.{virtual_among}
use Rattle.net_model.proofs.neighbours.of_virtual.Given as goal

-- those that are left tell it
abbrev pub invariant-ports : goal.invariant-ports
invariant-ports l = virtual_among l.switch l.ip l._name-iterator ≡ virtual_among l.switch l.ip l.records.switch_ports
