use Rattle.std.proofs.Common.{◌≡◌, ◌++◌, ◌∷◌, map}
use Rattle.physical_flows.specs.Compiling.{basis_of}
use Rattle.physical_flows.specs.declared.unit.FlowUnit.TheVariants as unit
use Rattle.physical_flows.specs.Units.{all_units}
use Rattle.physical_flows.proofs.compile.Maps.units.Given as goal

-- the units so far, and those of the records that are left
abbrev pub invariant-switches : goal.invariant-switches
invariant-switches l =
    let net = (basis_of l.self).net in
    l.units ++ map (λ e. unit.Switch e.0) l.name-iterator ≡ unit.Common ∷ map (λ e. unit.Switch e.0) net.switches

abbrev pub invariant-ports : goal.invariant-ports
invariant-ports l =
    let net = (basis_of l.self).net in
    l.units ++ map (λ e. unit.Port e.0) l.name-iterator ≡ unit.Common ∷ map (λ e. unit.Switch e.0) net.switches ++ map (λ e. unit.Port e.0) net.switch_ports

abbrev pub invariant-router_ports : goal.invariant-router_ports
invariant-router_ports l = l.units ++ map (λ e. unit.RouterPort e.0) l.name-iterator ≡ all_units (basis_of l.self).net
