use Rattle.ovnsim.proofs.OneEvent.{takes_accepted, takes_refused}
use Rattle.ovnsim.proofs.run.step.Goals as goal

pub returns-in-Ok : goal.returns-in-Ok
returns-in-Ok c = takes_accepted _ _ _ _ _ c.clear.ensures.items c.in-Ok.ensures.outcome

pub returns-in-Err-Refused : goal.returns-in-Err-Refused
returns-in-Err-Refused c =
    let left = rw c.in-Err-Refused.field-0-is at c.in-Err-Refused.ensures.outcome in takes_refused _ _ _ _ _ _ c.clear.ensures.items left
