use Rattle.std.specs.Prelude.{◌<◌, ◌^◌}
use Rattle.std.proofs.Common.{ap, sym, subst}
use Rattle.edit_reader.specs.declared.event.Event.TheVariants as event_of
use Rattle.net_model.specs.State.{event_count}
use Rattle.world_core.proofs.PacketEvents.{drain_done, handed_on, under_way_of}
use Rattle.world_core.proofs.world.World.take_drain.Goals as goal

pub drain-requires-clause-under_way : goal.drain-requires-clause-under_way
drain-requires-clause-under_way c = under_way_of c.args.self.now c.new-out.result.effects c.requires.taken c.new-out.ensures.effects

pub finish-requires-clause-room : goal.finish-requires-clause-room
finish-requires-clause-room c = subst (λ n. n < 2 ^ 42) (sym (ap event_count c.in_ok-drain.ensures.still)) c.requires.room

pub returns : goal.returns
returns c =
    handed_on c.args.self.now c.finish.new.self event_of.Drain c.drain.new.out c.done_from.result.effects c.done_from.result.walks c.done_from.result.matched c.done_from.ensures.effects c.done_from.ensures.walks
    (drain_done c.args.self.now c.new-out.result c.drain.new.out c.drain.new.self c.finish.new.self c.done_from.result.matched c.requires.taken c.requires.room
    (record { effects = c.new-out.ensures.effects; walks = c.new-out.ensures.walks }) c.in_ok-drain.ensures c.finish.ensures c.done_from.ensures.few c.done_from.ensures.matched)
