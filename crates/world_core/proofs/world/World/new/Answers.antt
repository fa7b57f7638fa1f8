use Rattle.world_core.proofs.EmptyWorld.{starts_sound}
use Rattle.world_core.proofs.world.World.new.Goals as goal

pub invariant_of-result : goal.invariant_of-result
invariant_of-result c = record { sound = λ _. starts_sound _ _ _ _ c.in_ok-new.ensures c.in_ok-new-2.ensures c.new-3.ensures.empty c.new-4.ensures }

pub returns-clause-sound : goal.returns-clause-sound
returns-clause-sound c = starts_sound _ _ _ _ c.in_ok-new.ensures c.in_ok-new-2.ensures c.new-3.ensures.empty c.new-4.ensures
