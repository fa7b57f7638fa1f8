use Rattle.geneve_frames.proofs.Faults.{one_spelled}
use Rattle.geneve_frames.proofs.laws.one_reading.Goals as goal

pub returns : goal.returns
returns c = one_spelled
