use Rattle.std.specs.Prelude.{flat_map}
use Rattle.std.specs.Map.{keys_of}
use Rattle.northd_core.specs.Routed.{neighbours_named}
use Rattle.northd_core.proofs.Joined.{IsJoining}
use Rattle.northd_core.proofs.neighbours.put_named.Given as goal

abbrev pub invariant-loop-name : goal.invariant-loop-name
invariant-loop-name l =
    IsJoining l.fn.units.keys (flat_map (neighbours_named l.records) (keys_of l.records.router_ports)) l.units.keys (flat_map (neighbours_named l.records) (keys_of l.name-iterator))
