use Rattle.std.specs.Prelude.{◌<◌, ◌^◌}
use Rattle.std.proofs.Common.{◌≡◌, None, ap, subst, sym, ◌∙◌}
use Rattle.edit_reader.specs.declared.event.Event.TheVariants as event_of
use Rattle.net_model.specs.State.{event_count}
use Rattle.sim_laws.specs.Passing.{most_arrivals}
use Rattle.world_setup.specs.Refusing.{cause_of_entry}
use Rattle.world_core.specs.StepParts.{IsDone}
use Rattle.world_core.proofs.DrainSteps.{drain_joins}
use Rattle.world_core.proofs.PacketEvents.{handed_on, packet_done, under_way_of}
use Rattle.world_core.proofs.world.World.send.Goals as goal

pub enter_and_cross-requires-clause-under_way : goal.enter_and_cross-requires-clause-under_way
enter_and_cross-requires-clause-under_way c = under_way_of c.args.self.now c.new-out.result.effects c.requires.taken c.new-out.ensures.effects

pub finish-requires-clause-room : goal.finish-requires-clause-room
finish-requires-clause-room c =
    let begun = c.in_ok-left.ensures in
    subst (λ n. n < 2 ^ 42) (sym (ap event_count c.in_ok-drain.ensures.still ∙ ap event_count begun.draining.still ∙ ap event_count begun.entered.still)) c.requires.room

pub returns : goal.returns
returns c =
    let old = c.args.self.now in
    let port = c.args.port.now in
    let frame = c.as_slice.result.now in
    let done = c.done_from.result in
    let begun = c.in_ok-left.ensures in
    let gone = drain_joins begun.first begun.between most_arrivals c.in_ok-left.left c.enter_and_cross.new.self c.enter_and_cross.new.out c.drain.new.out c.drain.new.self begun.draining c.in_ok-drain.ensures in
    subst (λ f. (cause_of_entry old.state port f ≡ None) × IsDone old (event_of.Packet port f) done.effects done.walks done.matched c.finish.new.self) c.as_slice.ensures (
      c.in_ok-packet.ensures.allowed,
      handed_on old c.finish.new.self (event_of.Packet port frame) c.drain.new.out done.effects done.walks done.matched c.done_from.ensures.effects c.done_from.ensures.walks
          (packet_done old port frame c.in_ok-packet.packet c.new-out.result begun.between c.drain.new.out begun.first c.drain.new.self c.finish.new.self done.matched c.in_ok-packet.ensures.packet c.requires.taken c.requires.room
          (record { effects = c.new-out.ensures.effects; walks = c.new-out.ensures.walks }) begun.entered gone c.finish.ensures c.done_from.ensures.few c.done_from.ensures.matched),
    )
