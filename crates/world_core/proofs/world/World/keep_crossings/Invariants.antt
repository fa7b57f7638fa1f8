use Rattle.std.proofs.Common.{◌≡◌, ℕ, List, drop, false}
use Rattle.world_core.specs.Packets.{CanBeKept}
use Rattle.net_model.specs.declared.crossing.Crossing.{Crossing}
use Rattle.world_core.proofs.CrossingStore.{IsKeeping}
use Rattle.world_core.proofs.world.World.keep_crossings.Given as goal

abbrev pub invariant-effects : goal.invariant-effects
invariant-effects l = record {
  keeping : (ws : List (ℕ × Crossing)) → CanBeKept l.fn.self.state l.fn.effects ws → IsKeeping l.fn.self (drop l.effect-index l.fn.effects) ws l.self;
  taken : l.self.whole ≡ false;
}
