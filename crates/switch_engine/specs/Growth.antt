-- What a run adds to what came before.
use Rattle.std.specs.Prelude.{◌≡◌, ◌++◌, ℕ, List, [], ◌∷◌}
use Rattle.inet_packet.specs.declared.packet.Packet.{Packet}
use Rattle.flow_table.specs.declared.flow.Flow.{Flow}
use Rattle.switch_engine.specs.declared.effect.Effect.{Effect}
use Rattle.switch_engine.specs.declared.effect.Entry.{Entry}
use Rattle.switch_engine.specs.declared.walk.RunOut.{RunOut}
use Rattle.switch_engine.specs.declared.walk.Step.{Step}
use Rattle.switch_engine.specs.Outcome.{Choosing}
use Rattle.switch_engine.specs.Walk.{IsWalk, start}
use Rattle.switch_engine.specs.Zones.{ZoneLists}

-- to what was there came a walk of the packet from table 0 on, and its effects, with choices of this kind, and from zones to zones
pub record GainsWalk (by : Choosing) (flows : List Flow) (entry : Entry) (now : ℕ) (packet : Packet) (before after : ZoneLists) (old new : RunOut) : Type 0 where
  pub steps : List Step
  pub effects : List Effect
  pub all_steps : new.walk ≡ old.walk ++ steps
  pub all_effects : new.effects ≡ old.effects ++ effects
  pub is_walk : IsWalk by flows entry now before (start entry packet ∷ []) steps effects after

-- what was there stands at the front of what is there now
pub record KeepsRun (old new : RunOut) : Type 0 where
  pub more_steps : List Step
  pub more_effects : List Effect
  pub all_steps : new.walk ≡ old.walk ++ more_steps
  pub all_effects : new.effects ≡ old.effects ++ more_effects
