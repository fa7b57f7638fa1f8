use Rattle.std.proofs.Common.{false, subst, sym}
use Rattle.world_core.specs.Inside.{seen_of}
use Rattle.world_core.specs.Outcome.{Wants}
use Rattle.world_core.proofs.EventKinds.{packets_move}
use Rattle.world_core.proofs.Refusal.{front_kept, half_done}
use Rattle.world_core.proofs.world.World.take_packets.Goals as goal

pub returns-in-Err-Memory : goal.returns-in-Err-Memory
returns-in-Err-Memory c =
    let left = rw c.in-Err-Memory.field-0-is at c.in-Err-Memory.ensures in
    subst (λ moves. Wants moves c.args.self.now c.args.text.now.items c.take.new.text.items (seen_of (record c.self-2.inside { whole = false }))) (sym (packets_move c.args.event.now))
    (half_done (seen_of c.self-2.inside), front_kept c.args.text.now.items c.take.new.text.items left)
