use Rattle.std.proofs.Common.{[], ◌∷◌, ◌++◌, ap, ◌∙◌, rules, refl}
use Rattle.switch_engine.specs.declared.effect.Effect.TheVariants as effect
use Rattle.switch_engine.specs.Actions.{frame_to}
use Rattle.switch_engine.proofs.Doings.{does_drop, does_all, by_op, does_go, does_frame, does_output, does_patch}
use Rattle.switch_engine.proofs.actions.act.Goals as goal

pub returns-then-may_begin-clause-does : goal.returns-then-may_begin-clause-does
returns-then-may_begin-clause-does c = does_all (c.in_ok-turn.ensures.in_range, c.requires.in_range.1) (c.in_ok-turn.ensures.does c.args.entry.now)

pub returns-in-Go-clause-does : goal.returns-in-Go-clause-does
returns-in-Go-clause-does c =
    by_op c.args.entry.now c.args.now c.in-Go.is
    (record { table = search rules; regs = c.requires.in_range.0.regs; whole = c.requires.in_range.0.whole; passes = c.requires.in_range.0.passes }, c.requires.in_range.1)
    (does_go c.args.entry.now c.args.now c.in-Go.table c.args.copy.now c.args.zones.now.entries c.args.effects.now)

pub returns-in_ok-drop_copy-in-Drop-clause-does : goal.returns-in_ok-drop_copy-in-Drop-clause-does
returns-in_ok-drop_copy-in-Drop-clause-does c =
    by_op c.args.entry.now c.args.now c.in-Drop.is c.requires.in_range (does_drop c.in-Drop.cause c.in_ok-drop_copy-in-Drop.ensures.effects (λ rest. refl))

pub returns-in_ok-push-in-Frame-clause-does : goal.returns-in_ok-push-in-Frame-clause-does
returns-in_ok-push-in-Frame-clause-does c = by_op c.args.entry.now c.args.now c.in-Frame.is c.requires.in_range (does_frame c.args.entry.now c.args.now c.in-Frame.chassis c.requires.in_range.0 (c.in_ok-push-in-Frame.ensures.ok ∙ ap (λ e. c.args.effects.now ++ e ∷ []) (c.in_ok-framed-in-Frame.ensures ∙ ap (λ name. frame_to name c.args.copy.now) c.get.ensures)))

pub returns-in_ok-push-in-Output-clause-does : goal.returns-in_ok-push-in-Output-clause-does
returns-in_ok-push-in-Output-clause-does c =
    by_op c.args.entry.now c.args.now c.in-Output.is c.requires.in_range (does_output c.args.entry.now c.args.now c.in-Output.port (c.in_ok-push-in-Output.ensures.ok ∙ ap (λ packet. c.args.effects.now ++ effect.Out c.get-in-Output.result.now packet ∷ []) c.in_ok-copy-in-Output.ensures ∙ ap (λ port. c.args.effects.now ++ effect.Out port c.args.copy.now.packet ∷ []) c.get-in-Output.ensures))

pub returns-in_ok-turn-in-Patch-clause-does : goal.returns-in_ok-turn-in-Patch-clause-does
returns-in_ok-turn-in-Patch-clause-does c =
    by_op c.args.entry.now c.args.now c.in-Patch.is (c.in_ok-turn-in-Patch.ensures.in_range, c.requires.in_range.1) (does_patch c.args.entry.now c.args.now c.in-Patch.dp c.in-Patch.in_port c.in-Patch.z_dnat c.in-Patch.z_snat c.patched_regs-regs.result c.patched_regs-regs.ensures.regs (c.in_ok-turn-in-Patch.ensures.does c.args.zones.now.entries))
