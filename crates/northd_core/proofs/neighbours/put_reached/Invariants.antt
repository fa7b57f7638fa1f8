use Rattle.std.specs.Prelude.{drop}
use Rattle.northd_core.specs.Routed.{reached_units}
use Rattle.northd_core.proofs.Joined.{IsJoining}
use Rattle.northd_core.proofs.neighbours.put_reached.Given as goal

abbrev pub invariant-ips : goal.invariant-ips
invariant-ips l = IsJoining l.fn.units.keys (reached_units l.records l.port l.ips) l.units.keys (reached_units l.records l.port (drop l.ip-index l.ips))
