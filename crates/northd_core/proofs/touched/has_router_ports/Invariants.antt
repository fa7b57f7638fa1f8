use Rattle.std.specs.Prelude.{◌≡◌}
use Rattle.nb_records.specs.Switches.{has_some}
use Rattle.northd_core.proofs.touched.has_router_ports.Given as goal

-- those that are left tell it
abbrev pub invariant-ports : goal.invariant-ports
invariant-ports l = has_some l._name-iterator ≡ has_some l.records.router_ports
