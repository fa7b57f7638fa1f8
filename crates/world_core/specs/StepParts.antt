-- What the parts of a step need and leave.
use Rattle.std.specs.Prelude.{◌≡◌, ◌+◌, ℕ, List, [], true, false, None, Some, Ok, Err, Result}
use Rattle.chassis_sim.specs.State.{nothing_held}
use Rattle.edit_reader.specs.declared.event.Event.{Event}
use Rattle.event_lines.specs.Text.{StartsWith}
use Rattle.event_lines.specs.declared.refusal.StepFault.{StepFault}
use Rattle.event_lines.specs.declared.refusal.StepFault.TheVariants.{Refused, Memory}
use Rattle.switch_engine.specs.Outcome.{of_program}
use Rattle.switch_engine.specs.declared.effect.NetEffect.{NetEffect}
use Rattle.switch_engine.specs.declared.walk.Walk.{Walk}
use Rattle.world_core.specs.Outcome.{matched, moves_packets, IsAccepted, IsRefused}
use Rattle.world_core.specs.EventPasses.{Passes}
use Rattle.world_setup.specs.Consistent.{IsConsistent}
use Rattle.world_core.specs.WorldView.{WorldView, AreHeld}
use Rattle.net_model.specs.State.{clocked, empty}
use Rattle.world_setup.specs.Refusing.{refusal}
use Rattle.world_setup.specs.Step as net
use Rattle.world_core.specs.declared.world.Done.{Done}
use Rattle.world_setup.specs.Zones.{Relists, Rezones}
use Rattle.sim_laws.specs.journeys.First.{nobody_home}
use Rattle.sim_laws.specs.journeys.Ticking.{all_zones_expired}

-- no record, no chassis, no event
abbrev pub new_world : WorldView
new_world = record { state = empty; zones = nobody_home; sim = nothing_held; walks = []; whole = true }

-- a sound world that takes an event
pub record IsTaken (w : WorldView) : Type 0 where
  pub consistent : IsConsistent w.state w.zones
  pub held : AreHeld w.state w.zones w.sim
  pub taken : w.whole ≡ false

-- the world in which so many seconds more have passed, and connections are gone that are idle then
abbrev pub clocked_world : WorldView → ℕ → WorldView
clocked_world w seconds = record w { state = clocked seconds w.state; sim = all_zones_expired (w.state.clock + seconds) w.sim }

-- what an accepted event leaves, and how many flows its packets matched
pub record IsDone (old : WorldView) (event : Event) (effects : List NetEffect) (walks : List Walk) (count : ℕ) (new : WorldView) : Type 0 where
  pub step : net.NetworkStep old.state event effects new.state
  pub passed : Passes of_program old.state.clock old.sim event (record { effects = effects; walks = walks }) new.sim
  pub counts : count ≡ matched walks
  pub zones : Rezones event old.zones new.zones
  pub lists : moves_packets event ≡ false → Relists event old.state.clock old.zones new.zones old.sim new.sim
  pub now : IsTaken new

-- what an event of packets does or why it is refused, before it is told; refused it does nothing
abbrev pub IsTried : Result Done StepFault → WorldView → Event → WorldView → Type 0
IsTried (Ok done) old event new = (refusal old.state event ≡ None) × IsDone old event done.effects done.walks done.matched new
IsTried (Err (Refused why)) old event new = (refusal old.state event ≡ Some why) × (new ≡ old)
IsTried (Err Memory) old event new = Unit {0}

-- what a taken event leaves, before the world is marked as whole again
abbrev pub Leaves : Result (Unit {0}) StepFault → WorldView → Event → List ℕ → List ℕ → WorldView → Type 0
Leaves (Ok done) old event before after new = IsAccepted old event before after new × IsTaken new
Leaves (Err (Refused why)) old event before after new = IsRefused old event why before after new × IsTaken new
Leaves (Err Memory) old event before after new = StartsWith after before
