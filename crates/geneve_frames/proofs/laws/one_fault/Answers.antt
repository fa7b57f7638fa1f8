use Rattle.geneve_frames.proofs.Faults.{first_is_one, spelled_none}
use Rattle.geneve_frames.proofs.laws.one_fault.Goals as goal

pub returns-clause-one : goal.returns-clause-one
returns-clause-one c = first_is_one

pub returns-clause-none : goal.returns-clause-none
returns-clause-none c = spelled_none
