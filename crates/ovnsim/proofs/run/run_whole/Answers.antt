use Rattle.std.proofs.Common.{refl}
use Rattle.ovnsim.proofs.Stops.{end_stands, whole_of}
use Rattle.ovnsim.proofs.OneEvent.{passed_on}
use Rattle.ovnsim.proofs.run.run_whole.Goals as goal

pub returns-in_err-give_end-clause-stopped : goal.returns-in_err-give_end-clause-stopped
returns-in_err-give_end-clause-stopped g c =
    let stopped = end_stands c.in_err-give_end.field-0.0 _ _ _ _ _ c.run_lines.new.world c.in_ok-counts.counts.accepted c.in_ok-counts.counts.refused c.waiting.result c.in_ok-counts.ensures.texts c.in_ok-counts.ensures.accepted
    c.in_ok-counts.ensures.refused c.waiting.ensures c.in_err-give_end.ensures.stopped in
    passed_on c.from_residual-in_err-give_end.result c.in_err-give_end.field-0.0 _ c.from_residual-in_err-give_end.ensures.1 stopped

pub returns-clause-whole : goal.returns-clause-whole
returns-clause-whole g c =
    whole_of _ _ _ _ c.run_lines.new.world c.in_ok-counts.counts.accepted c.in_ok-counts.counts.refused c.waiting.result _ c.in_ok-counts.ensures.texts c.in_ok-counts.ensures.accepted c.in_ok-counts.ensures.refused
    c.waiting.ensures refl c.in_ok-give_end.ensures.ok
