-- What an accepted event does to the network.
use Rattle.std.specs.Prelude.{◌≡◌, ℕ, true, false, List, []}
use Rattle.edit_reader.specs.declared.event.Event.{Event}
use Rattle.edit_reader.specs.declared.event.Event.TheVariants.{Edit, Bind, Unbind, AddChassis, RemoveChassis, Keys, Health, Clock, Inject, Deliver, Lose, Repeat, Drain, Packet, Unread}
use Rattle.inet_packet.specs.Frame.{frame_of}
use Rattle.inet_packet.specs.Whole.{IsWhole}
use Rattle.inet_packet.specs.declared.packet.Packet as inet
use Rattle.net_model.specs.Journey.{Traffic, enter_one, arrive_one, lose_one, arrive_all, enter_and_arrive, Travels}
use Rattle.net_model.specs.State.{State, clocked, finished}
use Rattle.net_model.specs.Trail.{End}
use Rattle.net_model.specs.Transition.{turned_by, bind, unbind, add_chassis, remove_chassis, mark_backend}
use Rattle.switch_engine.specs.declared.effect.NetEffect.{NetEffect}
use Rattle.world_setup.specs.Editing.{Edits}
use Rattle.sim_laws.specs.Effects.{effects_of}

-- ---- packets

-- the packets of the event go their ways, and its effects tell of their ends
pub record Moves (m : State) (traffic : Traffic) (effects : List NetEffect) (after : State) : Type 0 where
  pub ends : List End
  pub travels : Travels m traffic ends after
  pub effects_are : effects ≡ effects_of m.keys m.next ends

-- so does the packet of the frame
pub record Sends (m : State) (frame : List ℕ) (asks : inet.Packet → Traffic) (effects : List NetEffect) (after : State) : Type 0 where
  pub packet : inet.Packet
  pub whole : IsWhole packet
  pub frame_is : frame_of packet ≡ frame
  pub moves : Moves m (asks packet) effects after

-- ---- the step

-- what an event does, before it is counted
abbrev pub Does : State → Event → List NetEffect → State → Type 0
Does m (Edit ops) effects after = Edits m ops effects after
Does m (Bind p chassis) effects after = (effects ≡ []) × (after ≡ turned_by (bind m.config p chassis) m)
Does m (Unbind p) effects after = (effects ≡ []) × (after ≡ turned_by (unbind m.config p) m)
Does m (AddChassis chassis) effects after = (effects ≡ []) × (after ≡ turned_by (add_chassis m.config chassis) m)
Does m (RemoveChassis chassis) effects after = (effects ≡ []) × (after ≡ turned_by (remove_chassis m.config chassis) m)
Does m (Keys datapaths ports) effects after = (effects ≡ []) × (after ≡ record m { keys = record m.keys { datapath_range = datapaths; port_range = ports } })
Does m (Health balancer backend online) effects after = (effects ≡ []) × (after ≡ turned_by (mark_backend m.config balancer backend online) m)
Does m (Clock seconds) effects after = (effects ≡ []) × (after ≡ clocked seconds m)
Does m (Inject p frame) effects after = Sends m frame (enter_one p) effects after
Does m (Deliver n) effects after = Moves m (arrive_one n false) effects after
Does m (Lose n) effects after = Moves m (lose_one n) effects after
Does m (Repeat n) effects after = Moves m (arrive_one n true) effects after
Does m Drain effects after = Moves m arrive_all effects after
Does m (Packet p frame) effects after = Sends m frame (enter_and_arrive p) effects after
Does m (Unread fault) effects after = ⊥

-- an accepted event, its effects, and the state after it: where no crossing waits then, no key is retired
pub record NetworkStep (m : State) (event : Event) (effects : List NetEffect) (after : State) : Type 0 where
  pub mid : State
  pub does : Does m event effects mid
  pub state : after ≡ finished mid
