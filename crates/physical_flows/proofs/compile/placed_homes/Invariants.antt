use Rattle.std.proofs.Common.{◌≡◌, ◌++◌, drop}
use Rattle.physical_flows.specs.PlacedList.{placed_homes}
use Rattle.physical_flows.proofs.compile.placed_homes.Given as goal

-- the homes so far, and those of the ports that are left
abbrev pub invariant-ports : goal.invariant-ports
invariant-ports l = l.homes ++ placed_homes l.group (drop l.port-index l.ports) ≡ placed_homes l.group l.ports
