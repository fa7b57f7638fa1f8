use Rattle.std.proofs.Common.{◌++◌, sym, ◌∙◌, ap}
use Rattle.std.specs.List.{filter_map}
use Rattle.tunnel_keys.specs.Keys.{port_owner, held_port}
use Rattle.tunnel_keys.proofs.Lists.{append_none, no_length}
use Rattle.tunnel_keys.proofs.OwnerLaws.{none_listed}
use Rattle.tunnel_keys.proofs.retiring.retired_ports.Goals as goal

pub returns-then-is_empty : goal.returns-then-is_empty
returns-then-is_empty c =
    let none = none_listed port_owner c.args.removed.now (no_length c.args.removed.now (sym c.is_empty.ensures ∙ c.if-is_empty.true)) c.args.ports.now.entries in
    c.in_ok-all.ensures ∙ sym (append_none c.args.retired.now) ∙ sym (ap (λ es. c.args.retired.now ++ filter_map (held_port c.args.datapaths.now.entries) es) none)
