use Rattle.std.proofs.Common.{◌≡◌, take}
use Rattle.switch_engine.proofs.walk.copy_effects.Given as goal

abbrev pub invariant-effects : goal.invariant-effects
invariant-effects l = l.copy ≡ take l.effect-index l.effect-items
