use Rattle.std.proofs.Common.{◌+◌, ◌<◌, ◌^◌, subst, sym}
use Rattle.world_core.specs.Inside.{seen_of}
use Rattle.world_core.specs.WorldView.{IsSound, WorldView}
use Rattle.net_model.specs.State.{event_count}
use Rattle.world_core.proofs.Refusal.{refused_sound}
use Rattle.world_core.proofs.world.World.refuse.Goals as goal

pub invariant_of-self : goal.invariant_of-self
invariant_of-self c =
    let inside = c.self.inside in
    let room : event_count (seen_of inside).state < 2 ^ 42 = subst (λ (w : WorldView). event_count w.state < 2 ^ 42) (sym c.self.view_is) c.requires.room in
    record { sound = λ whole. subst (λ walks. IsSound (seen_of (record inside { walks = walks; refused = inside.refused + 1 }))) (sym c.clear.ensures) (refused_sound (seen_of inside) (c.self.invariant.sound whole) room) }
