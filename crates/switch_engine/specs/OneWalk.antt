-- What all walks of one packet share.
use Rattle.std.specs.Prelude.{◌≡◌, ℕ, List, length}
use Rattle.inet_packet.specs.declared.packet.Packet.{Packet}
use Rattle.inet_packet.specs.declared.regs.Regs.{Regs}
use Rattle.flow_table.specs.declared.flow.Flow.{Flow}
use Rattle.flow_table.specs.Matching.{IsBest}
use Rattle.switch_engine.specs.declared.effect.Effect.{Effect}
use Rattle.switch_engine.specs.declared.effect.Entry.{Entry}
use Rattle.switch_engine.specs.declared.walk.Step.{Step}
use Rattle.switch_engine.specs.Outcome.{picks_in}
use Rattle.switch_engine.specs.Walk.{IsWalkOf}
use Rattle.switch_engine.specs.Zones.{ZoneLists}

-- two flows that match and are unbeaten have equal actions
abbrev pub BestAgree : List Flow → Type 0
BestAgree flows = (table : ℕ) (regs : Regs) (packet : Packet) (f g : Flow) → IsBest flows table regs packet f → IsBest flows table regs packet g → f.ops ≡ g.ops

-- two walks with equal choices have equal effects, and leave equal zones; they have equal lengths
pub record AreOne (steps other_steps : List Step) (effects other_effects : List Effect) (after other_after : ZoneLists) : Type 0 where
  pub same_effects : effects ≡ other_effects
  pub same_zones : after ≡ other_after
  pub same_lengths : length steps ≡ length other_steps

abbrev pub WalksAreOne : Type 0
WalksAreOne =
    (flows : List Flow) (entry : Entry) (now : ℕ) (packet : Packet) (before after other_after : ZoneLists) (steps others : List Step) (effects other_effects : List Effect)
    → BestAgree flows
    → IsWalkOf flows entry now packet before steps effects after
    → IsWalkOf flows entry now packet before others other_effects other_after
    → picks_in effects ≡ picks_in other_effects
    → AreOne steps others effects other_effects after other_after
