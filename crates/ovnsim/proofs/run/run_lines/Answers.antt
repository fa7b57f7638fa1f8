use Rattle.std.proofs.Common.{◌+◌, cond, ap, sym, ◌∙◌, arith}
use Rattle.ovnsim.proofs.RunSteps.{ran_start, turn_event, turn_passed}
use Rattle.ovnsim.proofs.Stops.{at_end, give_stands, next_stands, starts, stays_at_end}
use Rattle.ovnsim.proofs.OneEvent.{one_more_event, passed_on}
use Rattle.ovnsim.proofs.run.run_lines.Goals as goal

pub lines-init : goal.lines-init
lines-init g c =
    let start = starts _ _ c.requires.unread c.requires.empty in record {
      ran = ran_start _ _ _ _ c.requires.unread c.requires.empty;
      within = start.within;
      unbroken = start.unbroken;
      at_end = λ h. absurd (start.not_ended h);
      sound = c.requires.sound;
      events = start.events;
      accepted = start.accepted;
      refused = start.refused;
      reads = omega arith;
      writes = omega arith;
    }

pub returns-in_err-event-clause-stopped : goal.returns-in_err-event-clause-stopped
returns-in_err-event-clause-stopped g c =
    let stopped = next_stands c.in_err-event.field-0.0 _ _ _ _ _ _ _ _ c.lines.invariant.within c.lines.invariant.ran c.in_err-event.ensures.stopped in
    passed_on c.from_residual.result c.in_err-event.field-0.0 _ c.from_residual.ensures.1 stopped

pub returns-in_err-is_accepted-in-Found-clause-stopped : goal.returns-in_err-is_accepted-in-Found-clause-stopped
returns-in_err-is_accepted-in-Found-clause-stopped g c =
    let found = rw c.in-Found.is at c.in_ok-event.ensures in
    let stopped = give_stands c.read_is_in_grammar.ensures c.in_err-is_accepted-in-Found.field-0.0 _ _ _ _ _ _ _ c.lines.buf c.next_event.new.buf c.lines.world c.in-Found.event found.progress c.lines.invariant.within c.next_event.ensures.within
    c.lines.invariant.ran found.next c.in_err-is_accepted-in-Found.ensures.stopped in
    passed_on c.from_residual-in_err-is_accepted-in-Found.result c.in_err-is_accepted-in-Found.field-0.0 _ c.from_residual-in_err-is_accepted-in-Found.ensures.1 stopped

pub lines-preserved-in-Found : goal.lines-preserved-in-Found
lines-preserved-in-Found g c =
    let found = rw c.in-Found.is at c.in_ok-event.ensures in
    let more = found.progress in
    let ok = c.in_ok-is_accepted-in-Found.is_accepted in
    let text = c.in_ok-is_accepted-in-Found.ensures.ok in
    let one = one_more_event ok _ _ _ _ text.taken in
    let before = c.lines.invariant in
    let few = before.events in record {
      ran = turn_event c.read_is_in_grammar.ensures _ _ _ _ _ _ c.lines.buf c.next_event.new.buf c.lines.world c.run_event.new.world c.in-Found.event ok more before.ran found.next text;
      within = c.next_event.ensures.within;
      unbroken = found.sound;
      at_end = stays_at_end _ _ _ _ before.at_end (λ h. ap (λ s. g.S.Source.left s) (c.next_event.ensures.after_end h)) c.next_event.ensures.at_end;
      sound = text.taken.sound;
      events = omega arith;
      accepted = c.add.ensures.accepted ∙ ap (λ n. n + cond ok 1 0) before.accepted ∙ sym text.taken.accepted;
      refused = c.add.ensures.refused ∙ ap (λ n. n + cond ok 0 1) before.refused ∙ sym text.taken.refused;
      reads = omega (arith, before.reads, c.next_event.ensures.faults);
      writes = omega (arith, before.writes, c.run_event.ensures.faults);
    }

pub lines-preserved : goal.lines-preserved
lines-preserved g c =
    let blank = rw c.in-Blank.is at c.in_ok-event.ensures in
    let more = blank.progress in
    let before = c.lines.invariant in
    let few = before.events in record {
      ran = turn_passed _ _ _ _ _ c.lines.buf c.next_event.new.buf c.lines.world more before.ran blank.next;
      within = c.next_event.ensures.within;
      unbroken = blank.sound;
      at_end = stays_at_end _ _ _ _ before.at_end (λ h. ap (λ s. g.S.Source.left s) (c.next_event.ensures.after_end h)) c.next_event.ensures.at_end;
      sound = before.sound;
      events = omega arith;
      accepted = before.accepted;
      refused = before.refused;
      reads = omega (arith, before.reads, c.next_event.ensures.faults);
      writes = before.writes;
    }

pub returns-in-End-clause-texts : goal.returns-in-End-clause-texts
returns-in-End-clause-texts g c =
    let end = rw c.in-End.is at c.in_ok-event.ensures in
    at_end _ _ _ _ _ c.lines.buf c.next_event.new.buf c.lines.world c.lines.invariant.within c.lines.invariant.ran end.next

pub returns-in-End-clause-at_end : goal.returns-in-End-clause-at_end
returns-in-End-clause-at_end g c =
    let end = rw c.in-End.is at c.in_ok-event.ensures in
    stays_at_end _ _ _ _ c.lines.invariant.at_end (λ h. ap (λ s. g.S.Source.left s) (c.next_event.ensures.after_end h)) c.next_event.ensures.at_end end.progress
