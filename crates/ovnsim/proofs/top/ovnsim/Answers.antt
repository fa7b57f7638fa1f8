use Rattle.std.proofs.Common.{true, false}
use Rattle.ovnsim.proofs.Stops.{answers_limit, answers_whole}
use Rattle.ovnsim.proofs.top.ovnsim.Goals as goal

pub returns-in-Ok-true-clause-headline : goal.returns-in-Ok-true-clause-headline
returns-in-Ok-true-clause-headline g c = λ _ _ _ _.
    let whole = rw c.in-Ok-true.field-0-test at c.in-Ok-true.ensures.whole in answers_whole _ _ _ true whole

pub returns-in-Ok-false-clause-headline : goal.returns-in-Ok-false-clause-headline
returns-in-Ok-false-clause-headline g c = λ _ _ _ _.
    let whole = rw c.in-Ok-false.field-0-test at c.in-Ok-false.ensures.whole in answers_whole _ _ _ false whole

pub returns-in-Err-InputTooLong-clause-headline : goal.returns-in-Err-InputTooLong-clause-headline
returns-in-Err-InputTooLong-clause-headline g c = λ _ _ _ _.
    let stopped = rw c.in-Err-InputTooLong.field-0-is at c.in-Err-InputTooLong.ensures.stopped in answers_limit _ _ _ _ stopped
