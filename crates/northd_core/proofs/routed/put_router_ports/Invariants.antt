use Rattle.std.specs.Prelude.{map}
use Rattle.std.specs.Map.{keys_of}
use Rattle.logical_flows.specs.declared.unit.UnitId.TheVariants.{Port}
use Rattle.northd_core.proofs.Joined.{IsJoining}
use Rattle.northd_core.proofs.routed.put_router_ports.Given as goal

abbrev pub invariant-loop-name : goal.invariant-loop-name
invariant-loop-name l = IsJoining l.fn.units.keys (map Port (keys_of l.records.router_ports)) l.units.keys (map Port (keys_of l.name-iterator))
