use Rattle.row_laws.proofs.translating.EachAgreesOnAny.{each_agrees_on_any}
use Rattle.row_laws.proofs.translating.any_router_agrees.Goals as goal

pub returns : goal.returns
returns c = each_agrees_on_any
