use Rattle.std.proofs.Common.{◌≡◌, false}
use Rattle.world_core.specs.Draining.{AreDraining}
use Rattle.world_core.proofs.world.World.drain.Given as goal

abbrev pub invariant-arrivals : goal.invariant-arrivals
invariant-arrivals l = record {
  draining : AreDraining l.fn.self l.fn.out l.fn.most l.left l.self l.out;
  taken : l.self.whole ≡ false;
}

abbrev pub decreases-arrivals : goal.decreases-arrivals
decreases-arrivals l = l.left
