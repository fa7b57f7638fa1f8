use Rattle.std.specs.Prelude.{◌≡◌, ◌++◌, filter, map}
use Rattle.ovn_base.specs.names.SameName.{same_name}
use Rattle.logical_flows.specs.declared.unit.UnitId.TheVariants.{Port}
use Rattle.northd_core.specs.Touched.{ports_at}
use Rattle.northd_core.proofs.touched.push_ports.Given as goal

-- the units so far, and those of the ports that are left
abbrev pub invariant-ports : goal.invariant-ports
invariant-ports l = l.units ++ map (λ e. Port e.0) (filter (λ e. same_name e.1.switch l.switch) l.name-iterator) ≡ l.fn.units ++ ports_at l.records l.switch
