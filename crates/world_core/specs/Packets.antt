-- What packets that go through the chassis of a world leave.
use Rattle.inet_packet.specs.Frame.{frame_of}
use Rattle.inet_packet.specs.Whole.{IsWhole}
use Rattle.inet_packet.specs.declared.packet.Packet as inet
use Rattle.std.specs.Prelude.{◌≡◌, ◌++◌, ◌+◌, ℕ, Bool, List, length, map, Some}
use Rattle.std.specs.List.Sorted.{IsStrictlySortedBy}
use Rattle.std.specs.Map.{keys_of}
use Rattle.std.specs.Ordering.{nat_cmp}
use Rattle.ovn_base.specs.lists.Among.{Among}
use Rattle.ovn_base.specs.names.ByName.{at}
use Rattle.ovn_base.specs.declared.name.Name.{Name}
use Rattle.switch_engine.specs.Outcome.{of_program}
use Rattle.chassis_sim.specs.InNames.{frames_sent}
use Rattle.chassis_sim.specs.Passing as sim
use Rattle.chassis_sim.specs.State as held
use Rattle.chassis_sim.specs.declared.out.SimOut.{SimOut}
use Rattle.nb_records.specs.declared.switch.Switch.{Switch}
use Rattle.nb_records.specs.declared.switch.SwitchPort.{SwitchPort}
use Rattle.switch_engine.specs.declared.effect.NetEffect.{NetEffect}
use Rattle.physical_flows.specs.GroupKeys.{group_key}
use Rattle.sim_laws.specs.Effects.{effects_of, spelled}
use Rattle.sim_laws.specs.Naming.{HasDatapathKey, HasPortKey}
use Rattle.sim_laws.specs.Passing.{AreDrained}
use Rattle.sim_laws.specs.journeys.Moves.{MovesFor, AreMoved}
use Rattle.sim_laws.specs.journeys.UnderWay.{IsUnderWay}
use Rattle.world_core.specs.WorldView.{WorldView, AreHeld}
use Rattle.sim_laws.specs.Held.{frame_of_crossing}
use Rattle.net_model.specs.Journey.{enter_one, arrive_one}
use Rattle.net_model.specs.State.{State}
use Rattle.net_model.specs.Trail.{End, Lists, crossings_in}
use Rattle.net_model.specs.declared.crossing.Aim.{Aim}
use Rattle.net_model.specs.declared.crossing.Aim.TheVariants.{ToPort, ToGroup}
use Rattle.net_model.specs.declared.crossing.Crossing.{Crossing}
use Rattle.sim_laws.specs.Sound.{MayWait}
use Rattle.tunnel_keys.specs.declared.owner.Identity.{Identity}

-- the whole packet of a frame
pub record IsPacketOf (packet : inet.Packet) (frame : List ℕ) : Type 0 where
  pub whole : IsWhole packet
  pub frame_is : frame_of packet ≡ frame

-- how many frames are among the effects
abbrev pub sent_among : List NetEffect → ℕ
sent_among effects = length (frames_sent effects)

-- the state with other connection lists and crossings
abbrev pub state_with : State → Lists → List (ℕ × Crossing) → ℕ → State
state_with m lists waiting next = record m { lists = lists; waiting = waiting; next = next }

-- The packets did this on the simulated chassis, and their effects are those of the ends to which the network takes them; the world holds the state
-- that it leaves, and nothing else of it changed. Each frame that was sent is among the effects.
pub record HasPassed (old : WorldView) (before after : SimOut) (new : WorldView) (Passed : held.SimState → SimOut → SimOut → held.SimState → Type 0) (Moved : State → List End → State → Type 0) : Type 0 where
  pub passed : Passed old.sim before after new.sim
  pub ends : List End
  pub effects : after.effects ≡ before.effects ++ effects_of old.state.keys old.state.next ends
  pub moved : Moved old.state ends new.state
  pub still : new.state ≡ state_with old.state new.state.lists new.state.waiting (old.state.next + length (crossings_in ends))
  pub under_way : IsUnderWay new.state new.zones (sent_among after.effects)
  pub held : AreHeld new.state new.zones new.sim
  pub rest : new ≡ record old { state = new.state; sim = new.sim }

-- a packet went in at a port, with the program's own picks
abbrev pub HasEntered : WorldView → Name → inet.Packet → SimOut → SimOut → WorldView → Type 0
HasEntered old p packet before after new = HasPassed old before after new (λ s b a t. sim.IsInjected of_program s p old.state.clock packet b a t) (λ m ends k. MovesFor (enter_one p packet) m ends k)

-- a frame arrived, with the program's own picks
abbrev pub HasArrived : WorldView → ℕ → Bool → SimOut → SimOut → WorldView → Type 0
HasArrived old n keep before after new = HasPassed old before after new (λ s b a t. sim.IsArrived of_program s n keep old.state.clock b a t) (λ m ends k. MovesFor (arrive_one n keep) m ends k)

-- the waiting frames arrived, up to so many, with the program's own picks
abbrev pub AreGone : ℕ → WorldView → SimOut → SimOut → WorldView → Type 0
AreGone most old before after new = HasPassed old before after new (λ s b a t. AreDrained of_program old.state.clock most s b a t) (λ m ends k. AreMoved most m ends k)

-- the crossing is one that may wait, and goes where its frame goes, which spells it under the keys
pub record IsSentAs (m : State) (to : Name) (bytes : List ℕ) (x : Crossing) : Type 0 where
  pub may : MayWait m x
  pub home : x.home ≡ to
  pub spelled_so : bytes ≡ spelled m.keys x

-- these crossings, each with its number, are those of the frames among the effects
pub record AreSentBy (m : State) (effects : List NetEffect) (crossings : List (ℕ × Crossing)) : Type 0 where
  pub frames : frames_sent effects ≡ map (frame_of_crossing m.keys) crossings
  pub sent : (n : ℕ) (x : Crossing) → Among (n, x) crossings → IsSentAs m x.home (spelled m.keys x) x

-- these crossings can be put behind those that wait
pub record CanBeKept (m : State) (effects : List NetEffect) (crossings : List (ℕ × Crossing)) : Type 0 where
  pub sent : AreSentBy m effects crossings
  pub behind : IsStrictlySortedBy nat_cmp (keys_of (m.waiting ++ crossings))

-- ---- whom numbers name

-- the number is that of the switch, which the records have
abbrev pub IsSwitchNumber : State → ℕ → Identity → Type 0
IsSwitchNumber m key id = HasDatapathKey m.keys id.name key × ((switch : Switch) × (at m.config.net.switches id.name ≡ Some switch) × (switch.birth ≡ id.birth))

-- the number is that of the port in the datapath, and the records have the port as one of a switch
abbrev pub IsPortNumber : State → Name → ℕ → Identity → Type 0
IsPortNumber m datapath key id = HasPortKey m.keys datapath id.name key × ((port : SwitchPort) × (at m.config.net.switch_ports id.name ≡ Some port) × (port.birth ≡ id.birth))

-- the number is that of whom a packet in the datapath goes to
abbrev pub IsNumberOf : State → Name → ℕ → Aim → Type 0
IsNumberOf m datapath key (ToGroup g) = key ≡ group_key g
IsNumberOf m datapath key (ToPort id) = IsPortNumber m datapath key id
