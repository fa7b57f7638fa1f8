use Rattle.std.specs.Prelude.{◌≡◌, ◌++◌, filter, is_some, map}
use Rattle.logical_flows.specs.declared.unit.UnitId.TheVariants.{Port}
use Rattle.northd_core.proofs.touched.push_ports_to_routers.Given as goal

-- the units so far, and those of the ports that are left
abbrev pub invariant-ports : goal.invariant-ports
invariant-ports l =
    l.units ++ map (λ e. Port e.0) (filter (λ e. is_some e.1.router_port) l.name-iterator) ≡ l.fn.units ++ map (λ e. Port e.0) (filter (λ e. is_some e.1.router_port) l.records.switch_ports)
