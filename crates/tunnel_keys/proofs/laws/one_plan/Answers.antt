use Rattle.tunnel_keys.proofs.OneOutcome.{one_result}
use Rattle.tunnel_keys.proofs.laws.one_plan.Goals as goal

pub returns : goal.returns
returns c = one_result
