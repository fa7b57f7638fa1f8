use Rattle.std.proofs.Common.{◌≡◌}
use Rattle.net_model.specs.Nearby.{router_among}
use Rattle.net_model.proofs.neighbours.of_router.Given as goal

-- those that are left tell it
abbrev pub invariant-ports : goal.invariant-ports
invariant-ports l = router_among l.records l.port l.switch l.ip l._name-iterator ≡ router_among l.records l.port l.switch l.ip l.records.switch_ports
