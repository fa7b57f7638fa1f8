use Rattle.std.proofs.Common.{rules, length, ◌<◌}
use Rattle.geneve_frames.proofs.Loop.{saw_more, saw_cut}
use Rattle.geneve_frames.proofs.survey.survey_of.Goals as goal

pub returns-in_err-option-clause-cut : goal.returns-in_err-option-clause-cut
returns-in_err-option-clause-cut c =
    let some : 0 < length c.options.rest.now = search rules in
    rw c.from_residual.ensures (saw_cut c.args.options.now c.options.rest.now c.options.found c.options.invariant some c.in_err-option.ensures.cut)

pub options-preserved : goal.options-preserved
options-preserved c =
    let found = c.in_ok-option.ensures.found in
    saw_more c.args.options.now c.options.rest.now c.in_ok-option.after.now c.options.found c.add-found.result found.0 c.options.invariant found.1 found.2 (c.add-found.ensures c.options.invariant.seen found.0 c.options.invariant.sums found.1 found.3)
