use Rattle.std.proofs.Common.{take, ◌∙◌, ap}
use Rattle.tunnel_keys.specs.Keys.{free_in}
use Rattle.tunnel_keys.proofs.FreeKeys.{free_moved}
use Rattle.tunnel_keys.proofs.free.free_keys.Goals as goal

pub returns : goal.returns
returns c =
    c.in_ok-found.ensures
    ∙ ap (λ t. take c.args.count (free_in c.args.range t)) c.as_slice.ensures.value
    ∙ ap (λ l. take c.args.count l) (free_moved c.args.range c.args.taken.now c.in_ok-rising.rising.items c.in_ok-rising.ensures.same)
