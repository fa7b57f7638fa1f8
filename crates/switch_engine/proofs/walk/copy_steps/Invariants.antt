use Rattle.std.proofs.Common.{◌≡◌, take}
use Rattle.switch_engine.proofs.walk.copy_steps.Given as goal

abbrev pub invariant-steps : goal.invariant-steps
invariant-steps l = l.copy ≡ take l.step-index l.step-items
