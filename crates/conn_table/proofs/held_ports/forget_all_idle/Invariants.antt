use Rattle.conn_table.proofs.HeldPortsLaws.{IsForgetting}
use Rattle.conn_table.proofs.held_ports.forget_all_idle.Given as goal

abbrev pub invariant-loop-entry : goal.invariant-loop-entry
invariant-loop-entry l = record {
  few : IsForgetting 256 l.now l.entries.entries l.entry-iterator l.fn.floors.entries l.floors.entries;
  all : IsForgetting 65536 l.now l.entries.entries l.entry-iterator l.fn.starts.entries l.starts.entries;
}
