use Rattle.row_laws.proofs.anywhere.flows_agree.Goals as goal
use Rattle.row_laws.proofs.translating.EachAgreesOnAny.{each_flows_agree}

pub returns : goal.returns
returns c = each_flows_agree
