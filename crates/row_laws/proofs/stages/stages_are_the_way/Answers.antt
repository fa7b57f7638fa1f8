use Rattle.row_laws.proofs.switch.EnterExit.{enters, exits, targets_same}
use Rattle.row_laws.proofs.stages.stages_are_the_way.Goals as goal

pub returns-clause-in_as_told : goal.returns-clause-in_as_told
returns-clause-in_as_told c = enters

pub returns-clause-target : goal.returns-clause-target
returns-clause-target c = targets_same

pub returns-clause-out_as_told : goal.returns-clause-out_as_told
returns-clause-out_as_told c = exits
