use Rattle.std.proofs.Common.{sym, subst}
use Rattle.world_setup.specs.Ground.{GroundView}
use Rattle.world_setup.specs.Setup.{StandsForGround}
use Rattle.world_setup.proofs.SettledRows.{settled_lowered}
use Rattle.world_setup.proofs.SetupTurns.{settled_store}
use Rattle.world_setup.proofs.setup.Setup.settle.Goals as goal

pub invariant_of-self : goal.invariant_of-self
invariant_of-self c =
    let ground = c.self.inside.ground in
    let stores = c.self.inside.stores.entries in
    subst (λ (g : GroundView). StandsForGround g c.self.inside.lowered stores) (sym c.settle.ensures) (record {
      lowered = settled_lowered ground.keys ground.config.net c.self.inside.lowered c.self.invariant.lowered;
      stores = λ name among. settled_store ground stores name (c.self.invariant.stores name among);
    })
