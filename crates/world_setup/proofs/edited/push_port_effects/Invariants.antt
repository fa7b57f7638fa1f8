use Rattle.std.proofs.Common.{◌≡◌, ◌++◌, map}
use Rattle.world_setup.specs.KeyLines.{port_effect}
use Rattle.world_setup.proofs.edited.push_port_effects.Given as goal

-- the lines so far, and those of the ports that are left
abbrev pub invariant-ports : goal.invariant-ports
invariant-ports l = l.effects ++ map (port_effect l.keys) l.name-iterator ≡ l.fn.effects ++ map (port_effect l.keys) l.ports.entries
