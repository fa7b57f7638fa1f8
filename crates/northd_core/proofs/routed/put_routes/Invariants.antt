use Rattle.std.specs.Prelude.{map}
use Rattle.std.specs.Map.{keys_of}
use Rattle.logical_flows.specs.declared.unit.UnitId.TheVariants.{Route}
use Rattle.northd_core.proofs.Joined.{IsJoining}
use Rattle.northd_core.proofs.routed.put_routes.Given as goal

abbrev pub invariant-loop-name : goal.invariant-loop-name
invariant-loop-name l = IsJoining l.fn.units.keys (map Route (keys_of l.records.routes)) l.units.keys (map Route (keys_of l.name-iterator))
