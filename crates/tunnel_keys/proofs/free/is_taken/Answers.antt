use Rattle.std.proofs.Common.{◌∙◌}
use Rattle.tunnel_keys.proofs.FreeKeys.{search_finds}
use Rattle.tunnel_keys.proofs.free.is_taken.Goals as goal

pub returns : goal.returns
returns c = c.is_ok.ensures.value ∙ search_finds c.args.rising.now c.args.key c.binary_search.result c.binary_search.ensures.position c.requires
