use Rattle.std.proofs.Common.{◌++◌, map, sym, ◌∙◌, ap}
use Rattle.tunnel_keys.specs.Keys.{datapath_owner, held_datapath}
use Rattle.tunnel_keys.proofs.Lists.{append_none, no_length}
use Rattle.tunnel_keys.proofs.OwnerLaws.{none_listed}
use Rattle.tunnel_keys.proofs.retiring.retired_datapaths.Goals as goal

pub returns-then-is_empty : goal.returns-then-is_empty
returns-then-is_empty c =
    let none = none_listed datapath_owner c.args.removed.now (no_length c.args.removed.now (sym c.is_empty.ensures ∙ c.if-is_empty.true)) c.args.datapaths.now.entries in
    c.in_ok-all.ensures ∙ sym (append_none c.args.retired.now) ∙ sym (ap (λ es. c.args.retired.now ++ map held_datapath es) none)
