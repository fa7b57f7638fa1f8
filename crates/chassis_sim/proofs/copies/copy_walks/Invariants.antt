use Rattle.std.proofs.Common.{◌≡◌, take}
use Rattle.chassis_sim.proofs.copies.copy_walks.Given as goal

abbrev pub invariant-walks : goal.invariant-walks
invariant-walks l = l.copy ≡ take l.walk-index l.walk-items
