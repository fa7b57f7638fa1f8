use Rattle.std.proofs.Common.{◌≡◌, ◌+◌, ◌++◌, [], ap, false, refl, subst, true, sym, ◌∙◌}
use Rattle.edit_reader.specs.declared.event.Event.TheVariants as event_of
use Rattle.event_lines.specs.Lines.{accepted_lines}
use Rattle.net_model.specs.State.{event_count}
use Rattle.world_core.specs.Inside.{seen_of}
use Rattle.world_core.specs.Outcome.{IsAccepted}
use Rattle.world_core.specs.StepParts.{IsTaken, clocked_world}
use Rattle.world_core.specs.WorldView.{IsSound, WorldView}
use Rattle.world_core.proofs.ClockEvents.{clock_taken}
use Rattle.world_core.proofs.PacketEvents.{counted_world}
use Rattle.world_core.proofs.Refusal.{taken_of}
use Rattle.world_core.proofs.world.World.take_clock.Goals as goal

pub tick-requires-clause-taken : goal.tick-requires-clause-taken
tick-requires-clause-taken c = subst (λ (w : WorldView). IsTaken (record w { whole = false })) (sym c.self.view_is) (taken_of c.args.self.now c.requires.sound)

pub invariant_of-self-3 : goal.invariant_of-self-3
invariant_of-self-3 c =
    let old = c.args.self.now in
    let seconds = c.args.seconds in
    let ticked : seen_of c.self-2.inside ≡ clocked_world (record old { whole = false }) seconds = c.self-2.view_is ∙ c.tick.ensures ∙ ap (λ (w : WorldView). clocked_world (record w { whole = false }) seconds) c.self.view_is in
    let end : seen_of (record c.self-3.inside { whole = true }) ≡ counted_world (clocked_world old seconds) [] =
    ap (λ (w : WorldView). record w { whole = true }) (c.self-3.view_is ∙ c.finish.ensures) ∙ (λ i. counted_world (ticked i) (c.clear.ensures i)) in
    let taken = clock_taken old seconds c.requires.sound c.requires.room c.requires.few [] (accepted_lines (event_count old.state + 1) [] 0) refl in
    record { sound = λ whole. subst (λ w. IsSound w) (sym end) taken.1 }

pub returns : goal.returns
returns c =
    let old = c.args.self.now in
    let seconds = c.args.seconds in
    let before = c.args.text.now.items in
    let text = c.accepted.new.out.items in
    let ticked : seen_of c.self-2.inside ≡ clocked_world (record old { whole = false }) seconds = c.self-2.view_is ∙ c.tick.ensures ∙ ap (λ (w : WorldView). clocked_world (record w { whole = false }) seconds) c.self.view_is in
    let end : seen_of (record c.self-3.inside { whole = true }) ≡ counted_world (clocked_world old seconds) [] =
    ap (λ (w : WorldView). record w { whole = true }) (c.self-3.view_is ∙ c.finish.ensures) ∙ (λ i. counted_world (ticked i) (c.clear.ensures i)) in
    let lines : text ≡ before ++ accepted_lines (event_count old.state + 1) [] 0 = c.in_ok-accepted.ensures.ok ∙ ap (λ (w : WorldView). before ++ accepted_lines (event_count w.state + 1) [] 0) c.self.view_is in
    subst (λ w. IsAccepted old (event_of.Clock seconds) before text w × IsSound w) (sym end) (clock_taken old seconds c.requires.sound c.requires.room c.requires.few before text lines)
