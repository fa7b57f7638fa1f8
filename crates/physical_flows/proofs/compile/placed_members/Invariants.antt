use Rattle.std.proofs.Common.{◌≡◌, ◌++◌, drop}
use Rattle.physical_flows.specs.PlacedList.{placed_members}
use Rattle.physical_flows.proofs.compile.placed_members.Given as goal

-- the members so far, and those among the ports that are left
abbrev pub invariant-ports : goal.invariant-ports
invariant-ports l = l.members ++ placed_members l.group l.arrived (drop l.port-index l.ports) ≡ placed_members l.group l.arrived l.ports
