use Rattle.std.proofs.Common.{sym, ap, ◌∙◌}
use Rattle.tunnel_keys.specs.Grouped.{grouped_under}
use Rattle.tunnel_keys.proofs.Lists.{no_length}
use Rattle.tunnel_keys.proofs.UnderLaws.{other_under}
use Rattle.tunnel_keys.proofs.grouped.push_live.Goals as goal

pub returns-then-is_empty : goal.returns-then-is_empty
returns-then-is_empty c =
    let others = c.args.others.now.entries in
    let none = sym c.under.ensures ∙ no_length c.under.result.now (sym c.is_empty.ensures ∙ c.if-is_empty.true) in
    λ d some. other_under d c.args.port.now.datapath (c.args.name.now, c.args.port.now.key) (grouped_under c.args.groups.now.entries d) (λ same. some (ap (λ n. grouped_under others n) same ∙ none))
