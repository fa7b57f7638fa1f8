use Rattle.std.proofs.Common.{ap, ◌∙◌}
use Rattle.std.specs.Option.{option_map}
use Rattle.conn_table.specs.declared.connection.Entry.{Entry}
use Rattle.conn_table.specs.Connections.{ConnectionList, answered}
use Rattle.conn_table.proofs.IndexLaws.{answered_by_index}
use Rattle.conn_table.proofs.zone.Zone.forward_of.Goals as goal

pub returns : goal.returns
returns c =
    c.copied.ensures ∙ c.get.ensures.value
    ∙ answered_by_index c.self.inside.entries.entries c.self.inside.forwards.entries c.args.reply.now c.self.invariant.0
    ∙ ap (λ (l : ConnectionList). option_map (λ (e : Entry). e.forward) (answered l c.args.reply.now)) c.self.view_is
