use Rattle.std.proofs.Common.{◌≡◌, ◌+◌, ◌++◌, [], ap, None, refl, subst, true, sym, ◌∙◌}
use Rattle.edit_reader.specs.declared.event.Event.TheVariants as event_of
use Rattle.event_lines.specs.Lines.{accepted_lines}
use Rattle.net_model.specs.State.{event_count}
use Rattle.sim_laws.specs.Sound.{AreCrossings}
use Rattle.world_core.specs.Inside.{seen_of}
use Rattle.world_core.specs.Outcome.{IsAccepted}
use Rattle.world_setup.specs.Refusing.{no_frame}
use Rattle.world_core.specs.WorldView.{IsSound, WorldView}
use Rattle.world_core.proofs.PacketEvents.{counted_world, loss_taken, lost_world}
use Rattle.world_core.proofs.world.World.take_loss.Goals as goal

pub lose-requires-clause-crossings : goal.lose-requires-clause-crossings
lose-requires-clause-crossings c = subst (λ (v : WorldView). AreCrossings v.state) (sym c.self.view_is) c.requires.sound.consistent.at_rest.on_the_way.crossings

pub invariant_of-self-3 : goal.invariant_of-self-3
invariant_of-self-3 c =
    let old = c.args.self.now in
    let n = c.from.result in
    let lost : seen_of c.self-2.inside ≡ lost_world old n = c.self-2.view_is ∙ c.lose.ensures ∙ ap (λ (w : WorldView). lost_world w n) c.self.view_is in
    let end : seen_of (record c.self-3.inside { whole = true }) ≡ counted_world (lost_world old n) [] =
    ap (λ (w : WorldView). record w { whole = true }) (c.self-3.view_is ∙ c.finish.ensures) ∙ (λ i. counted_world (lost i) (c.clear.ensures i)) in
    let allowed : no_frame old.state n ≡ None = ap (λ k. no_frame old.state k) c.from.ensures ∙ sym c.refusal_of_frame.ensures ∙ c.in_default.is in
    let taken = loss_taken old n c.requires.sound c.requires.room allowed [] (accepted_lines (event_count old.state + 1) [] 0) refl in
    record { sound = λ whole. subst (λ w. IsSound w) (sym end) taken.1 }

pub returns : goal.returns
returns c =
    let old = c.args.self.now in
    let n = c.from.result in
    let before = c.args.text.now.items in
    let text = c.accepted.new.out.items in
    let lost : seen_of c.self-2.inside ≡ lost_world old n = c.self-2.view_is ∙ c.lose.ensures ∙ ap (λ (w : WorldView). lost_world w n) c.self.view_is in
    let end : seen_of (record c.self-3.inside { whole = true }) ≡ counted_world (lost_world old n) [] =
    ap (λ (w : WorldView). record w { whole = true }) (c.self-3.view_is ∙ c.finish.ensures) ∙ (λ i. counted_world (lost i) (c.clear.ensures i)) in
    let allowed : no_frame old.state n ≡ None = ap (λ k. no_frame old.state k) c.from.ensures ∙ sym c.refusal_of_frame.ensures ∙ c.in_default.is in
    let lines : text ≡ before ++ accepted_lines (event_count old.state + 1) [] 0 = c.in_ok-accepted.ensures.ok ∙ ap (λ (w : WorldView). before ++ accepted_lines (event_count w.state + 1) [] 0) c.self.view_is in
    let taken = loss_taken old n c.requires.sound c.requires.room allowed before text lines in
    subst (λ w. IsAccepted old (event_of.Lose c.args.frame) before text w × IsSound w) (sym end)
    (subst (λ k. IsAccepted old (event_of.Lose k) before text (counted_world (lost_world old n) [])) c.from.ensures taken.0, taken.1)
