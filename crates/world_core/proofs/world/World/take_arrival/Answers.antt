use Rattle.std.proofs.Common.{subst, cond}
use Rattle.edit_reader.specs.declared.event.Event.TheVariants as event_of
use Rattle.world_core.specs.StepParts.{IsDone}
use Rattle.world_core.proofs.PacketEvents.{arrival_done, handed_on, under_way_of}
use Rattle.world_core.proofs.world.World.take_arrival.Goals as goal

pub arrive-requires-clause-under_way : goal.arrive-requires-clause-under_way
arrive-requires-clause-under_way c = under_way_of c.args.self.now c.new-out.result.effects c.requires.taken c.new-out.ensures.effects

pub returns : goal.returns
returns c =
    let done = c.done_from.result in
    subst (λ n. IsDone c.args.self.now (cond c.args.keep (event_of.Repeat n) (event_of.Deliver n)) done.effects done.walks done.matched c.finish.new.self) c.from.ensures
    (handed_on c.args.self.now c.finish.new.self (cond c.args.keep (event_of.Repeat c.from.result) (event_of.Deliver c.from.result)) c.arrive.new.out done.effects done.walks done.matched c.done_from.ensures.effects c.done_from.ensures.walks
    (arrival_done c.args.self.now c.from.result c.args.keep c.new-out.result c.arrive.new.out c.arrive.new.self c.finish.new.self done.matched c.requires.taken c.requires.room
    (record { effects = c.new-out.ensures.effects; walks = c.new-out.ensures.walks }) c.in_ok-arrive.ensures c.finish.ensures c.done_from.ensures.few c.done_from.ensures.matched))
