use Rattle.row_laws.proofs.translating.EachAtAny.{each_plain}
use Rattle.row_laws.proofs.translating.plain_routers_translate_nothing.Goals as goal

pub returns : goal.returns
returns c = each_plain
