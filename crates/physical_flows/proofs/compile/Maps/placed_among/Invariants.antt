use Rattle.std.proofs.Common.{◌≡◌, ◌++◌, drop}
use Rattle.physical_flows.specs.Compiling.{basis_of}
use Rattle.physical_flows.specs.PlacedList.{placed_among}
use Rattle.physical_flows.proofs.compile.Maps.placed_among.Given as goal

-- those so far, and those of the ports that are left
abbrev pub invariant-ports : goal.invariant-ports
invariant-ports l = l.placed ++ placed_among (basis_of l.self) (drop l.name-index l.ports) ≡ placed_among (basis_of l.self) l.ports
