use Rattle.std.proofs.Common.{◌≡◌, ◌-◌, ◌≤◌, ◌^◌, false, true}
use Rattle.std.specs.Io.KnownBytes.{IsAtEnd}
use Rattle.ovn_base.specs.lines.Reading.{unread}
use Rattle.ovn_base.specs.streams.WhereTold.{WhereTold}
use Rattle.world_core.specs.WorldView.{IsSound}
use Rattle.net_model.specs.State.{event_count}
use Rattle.ovnsim.proofs.RunSteps.{Ran}
use Rattle.ovnsim.specs.Next.{IsBelowLimit}
use Rattle.ovnsim.proofs.run.run_lines.Given as goal

abbrev pub invariant-lines : goal.invariant-lines
invariant-lines g l = record {
  ran : WhereTold (g.S.Source.left l.fn.source) (unread l.buf (g.S.Source.left l.source)) (Ran l.buf l.world (g.K.Sink.gone l.fn.sink) (g.K.Sink.gone l.sink));
  within : IsBelowLimit l.buf;
  unbroken : l.buf.faulted ≡ false;
  at_end : l.buf.ended ≡ true → IsAtEnd (g.S.Source.left l.source);
  sound : IsSound l.world;
  events : event_count l.world.state ≤ l.buf.given;
  accepted : l.counts.accepted ≡ l.world.state.accepted;
  refused : l.counts.refused ≡ l.world.state.refused;
  reads : g.S.Source.faults l.fn.source ≤ g.S.Source.faults l.source;
  writes : g.K.Sink.faults l.fn.sink ≤ g.K.Sink.faults l.sink;
}

abbrev pub decreases-lines : goal.decreases-lines
decreases-lines g l = 2 ^ 40 - l.buf.given
