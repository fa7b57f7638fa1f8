use Rattle.std.specs.Prelude.{◌≡◌, ◌++◌, map}
use Rattle.physical_flows.specs.declared.unit.FlowUnit.TheVariants.{RouterPort}
use Rattle.world_setup.proofs.edited.push_router_ports.Given as goal

-- the units so far, and those of the ports that are left
abbrev pub invariant-ports : goal.invariant-ports
invariant-ports l = l.units ++ map (λ e. RouterPort e.0) l.name-iterator ≡ l.fn.units ++ map (λ e. RouterPort e.0) l.records.router_ports
