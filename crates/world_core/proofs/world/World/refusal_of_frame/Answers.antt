use Rattle.std.proofs.Common.{Some, ap, sym, ◌∙◌}
use Rattle.event_lines.specs.declared.refusal.Refusal.TheVariants as why
use Rattle.world_setup.specs.Causes.{cause_if}
use Rattle.world_core.proofs.WaitingNames.{waits_or_not}
use Rattle.world_core.proofs.world.World.refusal_of_frame.Goals as goal

pub returns-then-is_none : goal.returns-then-is_none
returns-then-is_none c =
    let n = c.args.frame in
    let none = waits_or_not c.self.inside c.args.self.now c.self.view_is n c.from-frame.result c.from-frame.ensures c.get.result c.get.ensures.value c.is_none.result c.is_none.ensures in
    (λ i. Some (why.NoFrame (c.from-frame.ensures i))) ∙ ap (λ b. cause_if b (why.NoFrame n)) (sym (none ∙ c.if-is_none.true))

pub returns : goal.returns
returns c =
    let n = c.args.frame in
    let none = waits_or_not c.self.inside c.args.self.now c.self.view_is n c.from-frame.result c.from-frame.ensures c.get.result c.get.ensures.value c.is_none.result c.is_none.ensures in
    ap (λ b. cause_if b (why.NoFrame n)) (sym (none ∙ c.if-is_none.false))
