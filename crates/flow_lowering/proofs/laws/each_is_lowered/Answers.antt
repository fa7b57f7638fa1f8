use Rattle.flow_lowering.proofs.LoweringLaws.{each_is_lowered}
use Rattle.flow_lowering.proofs.laws.each_is_lowered.Goals as goal

pub returns : goal.returns
returns c = each_is_lowered
