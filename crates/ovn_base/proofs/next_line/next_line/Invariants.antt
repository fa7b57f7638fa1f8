use Rattle.std.proofs.Common.{◌≡◌, ◌≢◌, ◌+◌, ◌-◌, ◌≤◌, ◌^◌, false, true, cond, [], length, take}
use Rattle.std.specs.Io.KnownBytes.{IsAtEnd}
use Rattle.ovn_base.specs.lines.Lines.{HasNoFeed, ended_lines}
use Rattle.ovn_base.specs.lines.Reading.{bytes_taken}
use Rattle.ovn_base.proofs.LineSearch.{Going}
use Rattle.ovn_base.proofs.next_line.next_line.Given as goal

abbrev pub invariant-line : goal.invariant-line
invariant-line g l = record {
  going : Going l.fn.buf (g.S.Source.left l.fn.source) l.is_skipped l.buf (g.S.Source.left l.source);
  scanned : l.scanned ≤ length l.buf.held;
  seen : HasNoFeed (take l.scanned l.buf.held);
  sound : l.buf.faulted ≡ false;
  ended : l.buf.ended ≡ false → l.fn.buf.ended ≡ false;
  patient : ended_lines l.fn.buf.held ≢ [] → (l.source ≡ l.fn.source) × (l.buf.held ≡ l.fn.buf.held);
  after_end : l.fn.buf.ended ≡ true → l.source ≡ l.fn.source;
  at_end : l.fn.buf.ended ≡ false → l.buf.ended ≡ true → IsAtEnd (g.S.Source.left l.source);
  faults : g.S.Source.faults l.fn.source ≤ g.S.Source.faults l.source;
}

abbrev pub decreases-line : goal.decreases-line
decreases-line g l = (2 ^ 40 - bytes_taken l.buf) + cond l.buf.ended 0 1
