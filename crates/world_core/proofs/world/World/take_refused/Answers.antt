use Rattle.std.proofs.Common.{subst, sym}
use Rattle.world_core.specs.WorldView.{IsSound}
use Rattle.world_core.proofs.Refusal.{refused_sound}
use Rattle.world_core.proofs.world.World.take_refused.Goals as goal

pub returns : goal.returns
returns c event still refused = (
  record { first = refused; kept = c.in_ok-refuse.ensures.kept; text = c.in_ok-refuse.ensures.text },
  subst (λ w. IsSound w) (sym c.in_ok-refuse.ensures.kept) (refused_sound c.args.self.now c.requires.sound c.requires.room),
)
