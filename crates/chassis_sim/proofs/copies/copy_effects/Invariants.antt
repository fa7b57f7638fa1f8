use Rattle.std.proofs.Common.{◌≡◌, take}
use Rattle.chassis_sim.proofs.copies.copy_effects.Given as goal

abbrev pub invariant-effects : goal.invariant-effects
invariant-effects l = l.copy ≡ take l.effect-index l.effect-items
