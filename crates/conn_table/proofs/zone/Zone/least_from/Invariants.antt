use Rattle.std.proofs.Common.{◌≡◌, ◌≤◌, ◌*◌}
use Rattle.conn_table.specs.HeldPorts.{NoneFreeBelow}
use Rattle.conn_table.proofs.zone.Zone.least_from.Given as goal

-- no lesser port is free
abbrev pub invariant-each : goal.invariant-each
invariant-each l = record {
  same : l.self ≡ l.fn.self;
  from : 4 ≤ l.number;
  none : NoneFreeBelow l.fn.self l.back (l.number * 256);
}
