use Rattle.std.proofs.Common.{ap, ◌∙◌, List, ℕ, ◌++◌, ◌+◌}
use Rattle.event_lines.specs.Lines.{end_line}
use Rattle.ovnsim.specs.declared.run.Stop.TheVariants.{WriteFault}
use Rattle.ovnsim.proofs.OneEvent.{passed_on, was_cut, was_given}
use Rattle.ovnsim.proofs.run.give_end.Goals as goal

pub returns-in_err-give-clause-stopped : goal.returns-in_err-give-clause-stopped
returns-in_err-give-clause-stopped g c =
    let whole = end_line (c.args.counts.accepted + c.args.counts.refused) c.args.counts.accepted c.args.counts.refused c.args.waiting in
    let cut = was_cut _ _ _ _ (c.as_slice.ensures.value ∙ c.in_ok-end.ensures.ok ∙ ap (λ (t : List ℕ). t ++ whole) c.clear.ensures.items) c.in_err-give.ensures.front in
    passed_on c.from_residual-in_err-give.result WriteFault _ c.from_residual-in_err-give.ensures.1 cut

pub returns-clause-ok : goal.returns-clause-ok
returns-clause-ok g c =
    let whole = end_line (c.args.counts.accepted + c.args.counts.refused) c.args.counts.accepted c.args.counts.refused c.args.waiting in
    was_given _ _ _ _ (c.as_slice.ensures.value ∙ c.in_ok-end.ensures.ok ∙ ap (λ (t : List ℕ). t ++ whole) c.clear.ensures.items) c.in_ok-give.ensures.whole
