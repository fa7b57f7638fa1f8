use Rattle.std.proofs.Common.{◌≡◌, length, take}
use Rattle.conn_zones.proofs.FreeLaws.{AreMarks}
use Rattle.conn_zones.proofs.giving.marks_below.Given as goal

-- the marks are those of the numbers so far
abbrev pub invariant-numbers : goal.invariant-numbers
invariant-numbers l = record {
  each : length l.marks.items ≡ l.end;
  marked : AreMarks l.end (take l.number-index l.numbers) l.marks.items;
}
