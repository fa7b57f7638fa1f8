-- What the simulated chassis do with packets is what the network does with them.
use Rattle.std.specs.Prelude.{◌≡◌, ◌≤◌, ◌++◌, ◌+◌, ℕ, Bool, true, false, List, [], length, Some}
use Rattle.std.specs.BTreeMap.{is_at}
use Rattle.std.specs.Map.{remove_entry}
use Rattle.std.specs.Ordering.{nat_cmp}
use Rattle.chassis_sim.specs.Passing.{IsInjected, IsArrived}
use Rattle.chassis_sim.specs.State.{SimState, without}
use Rattle.chassis_sim.specs.declared.out.SimOut.{SimOut}
use Rattle.conn_zones.specs.Zoning.{Zoned}
use Rattle.inet_packet.specs.Whole.{IsWhole}
use Rattle.inet_packet.specs.declared.packet.Packet.{Packet}
use Rattle.match_cubes.specs.declared.sets.Sets.{Sets}
use Rattle.nb_records.specs.Network.{Network}
use Rattle.nb_records.specs.Switches.{is_virtual}
use Rattle.nb_records.specs.declared.switch.SwitchPort.{SwitchPort}
use Rattle.net_model.specs.Config.{port_identity}
use Rattle.net_model.specs.Journey.{Traffic, enter_one, arrive_one, lose_one, numbered_from}
use Rattle.net_model.specs.State.{State}
use Rattle.net_model.specs.Trail.{End, crossings_in}
use Rattle.net_model.specs.Visit.{switch_named}
use Rattle.net_model.specs.declared.crossing.Crossing.{Crossing}
use Rattle.ovn_base.specs.declared.limits.TheConstants.{MAX_CHASSIS}
use Rattle.ovn_base.specs.names.ByName.{at}
use Rattle.ovn_base.specs.lists.Among.{Among}
use Rattle.row_laws.specs.Distributed.{AreDistributed}
use Rattle.ovn_base.specs.declared.name.Name.{Name}
use Rattle.switch_engine.specs.Outcome.{Choosing}
use Rattle.sim_laws.specs.Effects.{effects_of}
use Rattle.sim_laws.specs.Sound.{MayWait}
use Rattle.sim_laws.specs.journeys.Holding.{HoldsNetwork}
use Rattle.sim_laws.specs.journeys.Moves.{MovesFor}
use Rattle.sim_laws.specs.journeys.UnderWay.{IsUnderWay}

-- The effects that came are those of the ends to which packets went. What the event asks of packets takes them there, and the chassis hold the
-- state that it leaves, which is sound.
pub record IsJourney (m : State) (zones : Zoned) (sets : Sets) (more : ℕ) (traffic : Traffic) (before after : SimOut) (new : SimState) : Type 0 where
  pub ends : List End
  pub effects : after.effects ≡ before.effects ++ effects_of m.keys m.next ends
  pub left : State
  pub moves : MovesFor traffic m ends left
  pub sound : IsUnderWay left zones more
  pub held : HoldsNetwork left zones.numbers sets new

-- no port of the switch leads to a router
abbrev pub HasVirtualPorts : Network → Name → Type 0
HasVirtualPorts net switch = (q : Name) (port : SwitchPort) → at net.switch_ports q ≡ Some port → port.switch ≡ switch → is_virtual port ≡ true

-- the crossing is one of a packet that came into the switch by the port
pub record IsSentFrom (net : Network) (i : SwitchPort) (x : Crossing) : Type 0 where
  pub datapath : x.datapath ≡ switch_named net i.switch
  pub in_port : x.in_port ≡ port_identity i

-- there are as many as there may be chassis at most, each from the port
pub record AreStraight (net : Network) (i : SwitchPort) (xs : List Crossing) : Type 0 where
  pub few : length xs ≤ MAX_CHASSIS
  pub each : (x : Crossing) → Among x xs → IsSentFrom net i x

-- A packet entered at the port, and went on through switches and routers. So many frames were sent, each from the switch in which the packet was; where no
-- port of the first switch leads to a router, all are sent from the port at which it entered, at most as many as there may be chassis.
pub record IsPortEntry (m : State) (zones : Zoned) (sets : Sets) (more : ℕ) (port : Name) (packet : Packet) (before after : SimOut) (new : SimState) : Type 0 where
  pub sent : ℕ
  pub journey : IsJourney m zones sets (more + sent) (enter_one port packet) before after new
  pub count : length (crossings_in journey.ends) ≡ sent
  pub may : (x : Crossing) → Among x (crossings_in journey.ends) → MayWait m x
  pub waiting : journey.left.waiting ≡ m.waiting ++ numbered_from m.next (crossings_in journey.ends)
  pub straight : (i : SwitchPort) → at m.config.net.switch_ports port ≡ Some i → HasVirtualPorts m.config.net i.switch → AreStraight m.config.net i (crossings_in journey.ends)

-- the crossings that wait on where that of the number arrives
abbrev pub waiting_on : Bool → ℕ → List (ℕ × Crossing) → List (ℕ × Crossing)
waiting_on true n waiting = waiting
waiting_on false n waiting = remove_entry (is_at (nat_cmp n)) waiting

-- A frame arrived, and waits on where it is kept. So many frames were sent for it, since it may have come to a gateway router, which sent it on; none was
-- where all routers are distributed.
pub record IsComing (m : State) (zones : Zoned) (sets : Sets) (more n : ℕ) (keep : Bool) (before after : SimOut) (new : SimState) : Type 0 where
  pub sent : ℕ
  pub journey : IsJourney m zones sets (more + sent) (arrive_one n keep) before after new
  pub count : length (crossings_in journey.ends) ≡ sent
  pub may : (x : Crossing) → Among x (crossings_in journey.ends) → MayWait m x
  pub waiting : journey.left.waiting ≡ waiting_on keep n m.waiting ++ numbered_from m.next (crossings_in journey.ends)
  pub none_sent : AreDistributed m.config.net → crossings_in journey.ends ≡ []

-- A packet that goes in at a port enters the network, and goes on through switches and routers.
abbrev pub EntryJourneyLaw : Type 0
EntryJourneyLaw =
    (m : State) (zones : Zoned) (sets : Sets) (more : ℕ) (s new : SimState) (by : Choosing) (port : Name) (packet : Packet) (before after : SimOut)
    → IsUnderWay m zones more → HoldsNetwork m zones.numbers sets s
    → IsWhole packet → IsInjected by s port m.clock packet before after new
    → IsPortEntry m zones sets more port packet before after new

-- A frame that arrives is its crossing, that arrives, and waits on where it is kept.
abbrev pub ArrivalJourneyLaw : Type 0
ArrivalJourneyLaw =
    (m : State) (zones : Zoned) (sets : Sets) (more : ℕ) (s new : SimState) (by : Choosing) (n : ℕ) (keep : Bool) (before after : SimOut)
    → IsUnderWay m zones more → HoldsNetwork m zones.numbers sets s
    → IsArrived by s n keep m.clock before after new
    → IsComing m zones sets more n keep before after new

-- the state without the crossing of the number
abbrev pub without_crossing : State → ℕ → State
without_crossing m n = record m { waiting = remove_entry (is_at (nat_cmp n)) m.waiting }

-- A frame that is lost is its crossing, that waits no more.
abbrev pub LossJourneyLaw : Type 0
LossJourneyLaw =
    (m : State) (zones : Zoned) (sets : Sets) (more : ℕ) (s : SimState) (n : ℕ)
    → IsUnderWay m zones more → HoldsNetwork m zones.numbers sets s
    → MovesFor (lose_one n) m [] (without_crossing m n) × IsUnderWay (without_crossing m n) zones more × HoldsNetwork (without_crossing m n) zones.numbers sets (without s n)
