use Rattle.std.specs.Prelude.{flat_map}
use Rattle.stage_rows.specs.Units.{balancer_units, units_of_balancer}
use Rattle.northd_core.proofs.Joined.{IsJoining}
use Rattle.northd_core.proofs.routed.put_balancers.Given as goal

abbrev pub invariant-loop-name : goal.invariant-loop-name
invariant-loop-name l = IsJoining l.fn.units.keys (balancer_units l.records) l.units.keys (flat_map (units_of_balancer l.records) l.name-iterator)
