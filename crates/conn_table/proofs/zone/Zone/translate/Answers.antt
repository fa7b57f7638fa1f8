use Rattle.std.proofs.Common.{ap, subst, sym, ◌∙◌}
use Rattle.std.specs.Option.{option_map}
use Rattle.conn_table.specs.declared.connection.Entry.{Entry}
use Rattle.conn_table.specs.declared.connection.State.TheVariants as states
use Rattle.conn_table.specs.Tuples.{tuple_of, CanBecome}
use Rattle.conn_table.specs.Tracking.{NamesEntry, CanTranslate}
use Rattle.conn_table.proofs.TranslateLaws.{becomes_forward, becomes_reply}
use Rattle.conn_table.proofs.zone.Zone.translate.Goals as goal

pub rewrite-requires : goal.rewrite-requires
rewrite-requires c =
    let e = c.entry.result.now in
    let named : NamesEntry c.args.self.now (tuple_of c.args.packet.now) (states.Forward c.in-Forward.slot) = subst (λ s. CanTranslate c.args.self.now (tuple_of c.args.packet.now) s) c.in-Forward.is c.requires in
    subst (λ t. CanBecome t c.args.packet.now) (sym c.reversed.ensures)
    (becomes_forward c.args.packet.now e c.entry.ensures.connection.pair (named.1 ∙ ap (λ o. option_map (λ (x : Entry). x.forward) o) c.entry.ensures.entry))

pub rewrite-requires-in-Reply : goal.rewrite-requires-in-Reply
rewrite-requires-in-Reply c =
    let e = c.entry-in-Reply.result.now in
    let named : NamesEntry c.args.self.now (tuple_of c.args.packet.now) (states.Reply c.in-Reply.slot) = subst (λ s. CanTranslate c.args.self.now (tuple_of c.args.packet.now) s) c.in-Reply.is c.requires in
    subst (λ t. CanBecome t c.args.packet.now) (sym c.reversed-in-Reply.ensures)
    (becomes_reply c.args.packet.now e c.entry-in-Reply.ensures.connection.pair (named.1 ∙ ap (λ o. option_map (λ (x : Entry). x.reply) o) c.entry-in-Reply.ensures.entry))
