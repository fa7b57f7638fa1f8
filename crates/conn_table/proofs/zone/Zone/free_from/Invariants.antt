use Rattle.conn_table.specs.HeldPorts.{IsFloor}
use Rattle.conn_table.proofs.zone.Zone.free_from.Given as goal

abbrev pub invariant-ports : goal.invariant-ports
invariant-ports l = IsFloor 256 l.self l.block l.port
