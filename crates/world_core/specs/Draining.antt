-- How the frames that wait arrive, one after another, and a packet's own before it is named.
use Rattle.inet_packet.specs.declared.packet.Packet as inet
use Rattle.std.specs.Prelude.{◌≡◌, ◌+◌, ◌++◌, ℕ, List, [], ◌∷◌, length}
use Rattle.chassis_sim.specs.State as sim
use Rattle.chassis_sim.specs.declared.out.SimOut.{SimOut}
use Rattle.net_model.specs.State.{State}
use Rattle.net_model.specs.Trail.{End, crossings_in}
use Rattle.net_model.specs.declared.crossing.Crossing.{Crossing}
use Rattle.ovn_base.specs.declared.name.Name.{Name}
use Rattle.sim_laws.specs.Effects.{effects_of}
use Rattle.sim_laws.specs.Passing.{AreDrained, most_arrivals}
use Rattle.sim_laws.specs.journeys.Moves.{AreMoved}
use Rattle.sim_laws.specs.journeys.UnderWay.{IsUnderWay}
use Rattle.switch_engine.specs.Outcome.{of_program}
use Rattle.world_core.specs.Packets.{HasEntered, sent_among, state_with}
use Rattle.world_core.specs.WorldView.{AreHeld, WorldView}

-- Frames arrived, or none did, and up to so many may still: however these go on, all together are an arrival of up to `most`, the lowest first.
pub record AreDraining (old : WorldView) (before : SimOut) (most left : ℕ) (now : WorldView) (told : SimOut) : Type 0 where
  pub own : List End
  pub all : told.effects ≡ before.effects ++ effects_of old.state.keys old.state.next own
  pub drained : (after : SimOut) (s : sim.SimState) → AreDrained of_program old.state.clock left now.sim told after s → AreDrained of_program old.state.clock most old.sim before after s
  pub moves : (ends : List End) (m : State) → AreMoved left now.state ends m → AreMoved most old.state (own ++ ends) m
  pub still : now.state ≡ state_with old.state now.state.lists now.state.waiting (old.state.next + length (crossings_in own))
  pub under_way : IsUnderWay now.state now.zones (sent_among told.effects)
  pub held : AreHeld now.state now.zones now.sim
  pub rest : now ≡ record old { state = now.state; sim = now.sim }

-- a packet went in at a port, some of the frames that wait then may have arrived, the lowest first, and so many may arrive still
pub record HasBegun (old : WorldView) (p : Name) (packet : inet.Packet) (before after : SimOut) (left : ℕ) (new : WorldView) : Type 0 where
  pub between : SimOut
  pub first : WorldView
  pub entered : HasEntered old p packet before between first
  pub draining : AreDraining first between most_arrivals left new after

-- in a world under way the frame of this number waits alone, and the other is that world where nobody has named it
pub record IsUnnamed (w : WorldView) (frame : ℕ) (told : SimOut) (now : WorldView) : Type 0 where
  pub crossing : Crossing
  pub alone : w.state.waiting ≡ (frame, crossing) ∷ []
  pub under_way : IsUnderWay w.state w.zones (sent_among told.effects)
  pub held : AreHeld w.state w.zones w.sim
  pub now_is : now ≡ record w { state = record w.state { waiting = [] } }
