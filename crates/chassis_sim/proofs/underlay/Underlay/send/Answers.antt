use Rattle.std.proofs.Common.{◌+◌, ◌++◌, ◌∷◌, [], sym, ap, subst, ◌∙◌, arith}
use Rattle.std.specs.List.{AllByRecursion}
use Rattle.switch_engine.proofs.Lists.{all_append}
use Rattle.chassis_sim.specs.declared.underlay.WaitingFrame.{WaitingFrame}
use Rattle.chassis_sim.specs.Frames.{IsWaiting}
use Rattle.chassis_sim.specs.Underlay.{Underway}
use Rattle.chassis_sim.proofs.UnderlayLaws.{behind, waits_on}
use Rattle.chassis_sim.proofs.underlay.Underlay.send.Goals as goal

pub invariant_of-self-2 : goal.invariant_of-self-2
invariant_of-self-2 c =
    let next = c.self.inside.next in
    let held = c.self.inside.waiting.entries in
    let frame : WaitingFrame = record { to = c.args.to; bytes = c.args.bytes } in
    record {
      ordered = c.in_ok-insert.ensures.ordered;
      each = subst (AllByRecursion (IsWaiting (next + 1))) (sym (c.in_ok-insert.ensures.entries ∙ behind held next frame c.self.invariant.each))
          (all_append (IsWaiting (next + 1)) held ((next, frame) ∷ []) (waits_on next (next + 1) held (omega arith) c.self.invariant.each) (record { below = omega arith; sent = c.requires.sent }, tt));
    }

pub returns-clause-waiting : goal.returns-clause-waiting
returns-clause-waiting c =
    let frame : WaitingFrame = record { to = c.args.to; bytes = c.args.bytes } in
    c.in_ok-insert.ensures.entries ∙ behind c.self.inside.waiting.entries c.self.inside.next frame c.self.invariant.each ∙ ap (λ (u : Underway). u.waiting ++ (u.next, frame) ∷ []) c.self.view_is
