use Rattle.match_language.proofs.Decimals.{decimal_found}
use Rattle.match_language.proofs.constant.decimal_value.Goals as goal

pub returns : goal.returns
returns c = decimal_found c.args.word.now c.read_number.result c.read_number.ensures.found c.read_number.ensures.none
