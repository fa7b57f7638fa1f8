use Rattle.std.specs.Map.{keys_of}
use Rattle.northd_core.specs.Routed.{served_units}
use Rattle.northd_core.proofs.Joined.{IsJoining}
use Rattle.northd_core.proofs.routed.put_on_switches.Given as goal

abbrev pub invariant-loop-datapath : goal.invariant-loop-datapath
invariant-loop-datapath l = IsJoining l.fn.units.keys (served_units l.name l.balancer (keys_of l.records.switches)) l.units.keys (served_units l.name l.balancer (keys_of l.datapath-iterator))
