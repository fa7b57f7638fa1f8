-- What a world does with an event.
use Rattle.std.specs.Prelude.{◌≡◌, ◌++◌, ◌+◌, ℕ, Bool, true, false, List, [], length, None, Some, Ok, Err, Result}
use Rattle.std.specs.List.{sum_by}
use Rattle.edit_reader.specs.declared.event.Event.{Event}
use Rattle.edit_reader.specs.declared.event.Event.TheVariants.{Edit, Bind, Unbind, AddChassis, RemoveChassis, Keys, Health, Clock, Inject, Deliver, Lose, Repeat, Drain, Packet, Unread}
use Rattle.event_lines.specs.Lines.{accepted_lines, refused_line}
use Rattle.event_lines.specs.declared.refusal.Refusal.{Refusal}
use Rattle.event_lines.specs.declared.refusal.StepFault.{StepFault}
use Rattle.event_lines.specs.declared.refusal.StepFault.TheVariants.{Refused, Memory}
use Rattle.switch_engine.specs.Outcome.{Choosing, of_program}
use Rattle.switch_engine.specs.declared.effect.NetEffect.{NetEffect}
use Rattle.switch_engine.specs.declared.walk.Walk.{Walk}
use Rattle.world_core.specs.EventPasses.{Passes}
use Rattle.world_setup.specs.Refusing.{refusal}
use Rattle.world_core.specs.WorldView.{WorldView, IsSound}
use Rattle.net_model.specs.State.{event_count}
use Rattle.world_setup.specs.Step as net
use Rattle.world_setup.specs.Zones.{Relists, Rezones}

-- how many flows were matched in all
abbrev pub matched : List Walk → ℕ
matched walks = sum_by (λ walk. length walk.steps) walks

-- the event moves packets on chassis
abbrev pub moves_packets : Event → Bool
moves_packets (Edit ops) = false
moves_packets (Bind port chassis) = false
moves_packets (Unbind port) = false
moves_packets (AddChassis chassis) = false
moves_packets (RemoveChassis chassis) = false
moves_packets (Keys datapaths ports) = false
moves_packets (Health balancer backend online) = false
moves_packets (Clock seconds) = false
moves_packets (Inject port frame) = true
moves_packets (Deliver n) = true
moves_packets (Lose n) = false
moves_packets (Repeat n) = true
moves_packets Drain = true
moves_packets (Packet port frame) = true
moves_packets (Unread fault) = false

-- an accepted event, with choices of this kind: its effects are a step of the network and what came of its packets on the chassis, and its text says them; where
-- it moves none, each zone of each chassis has the list that it leaves
pub record IsAcceptedBy (choosing : Choosing) (old : WorldView) (event : Event) (before after : List ℕ) (new : WorldView) : Type 0 where
  pub admitted : refusal old.state event ≡ None
  pub effects : List NetEffect
  pub step : net.NetworkStep old.state event effects new.state
  pub passed : Passes choosing old.state.clock old.sim event (record { effects = effects; walks = new.walks }) new.sim
  pub zones : Rezones event old.zones new.zones
  pub lists : moves_packets event ≡ false → Relists event old.state.clock old.zones new.zones old.sim new.sim
  pub text : after ≡ before ++ accepted_lines (event_count old.state + 1) effects (matched new.walks)

-- backends and ports are the program's own picks
abbrev pub IsAccepted : WorldView → Event → List ℕ → List ℕ → WorldView → Type 0
IsAccepted old event before after new = IsAcceptedBy of_program old event before after new

-- a refused event: it counts, and nothing else changes
pub record IsRefused (old : WorldView) (event : Event) (why : Refusal) (before after : List ℕ) (new : WorldView) : Type 0 where
  pub first : refusal old.state event ≡ Some why
  pub kept : new ≡ record old { state = record old.state { refused = old.state.refused + 1 }; walks = [] }
  pub text : after ≡ before ++ refused_line (event_count old.state + 1) why

-- what want of memory leaves: where packets were moved the world isn't sound, and the text keeps what it held; in any other event
-- all stays
abbrev pub Wants : Bool → WorldView → List ℕ → List ℕ → WorldView → Type 0
Wants true old before after new = (¬ IsSound new) × ((more : List ℕ) × (after ≡ before ++ more))
Wants false old before after new = (new ≡ old) × (after ≡ before)

-- what a step leaves
abbrev pub Outcome : Result (Unit {0}) StepFault → WorldView → Event → List ℕ → List ℕ → WorldView → Type 0
Outcome (Ok done) old event before after new = IsAccepted old event before after new × IsSound new
Outcome (Err (Refused why)) old event before after new = IsRefused old event why before after new × IsSound new
Outcome (Err Memory) old event before after new = Wants (moves_packets event) old before after new
