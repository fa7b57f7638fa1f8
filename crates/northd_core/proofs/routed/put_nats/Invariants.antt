use Rattle.std.specs.Prelude.{map}
use Rattle.std.specs.Map.{keys_of}
use Rattle.logical_flows.specs.declared.unit.UnitId.TheVariants.{Nat}
use Rattle.northd_core.proofs.Joined.{IsJoining}
use Rattle.northd_core.proofs.routed.put_nats.Given as goal

abbrev pub invariant-loop-name : goal.invariant-loop-name
invariant-loop-name l = IsJoining l.fn.units.keys (map Nat (keys_of l.records.nats)) l.units.keys (map Nat (keys_of l.name-iterator))
