-- The packets of an event, one after another: on the simulated chassis as in the network.
use Rattle.std.specs.Prelude.{◌≡◌, ◌++◌, ◌+◌, ℕ, List, length}
use Rattle.chassis_sim.specs.State.{SimState}
use Rattle.chassis_sim.specs.declared.out.SimOut.{SimOut}
use Rattle.conn_zones.specs.Zoning.{Zoned}
use Rattle.inet_packet.specs.declared.packet.Packet.{Packet}
use Rattle.match_cubes.specs.declared.sets.Sets.{Sets}
use Rattle.net_model.specs.Journey.{Traffic, enter_one, arrive_all, enter_and_arrive, Travels}
use Rattle.net_model.specs.State.{State}
use Rattle.net_model.specs.Trail.{End, crossings_in}
use Rattle.ovn_base.specs.declared.limits.TheConstants.{MAX_ARRIVALS}
use Rattle.ovn_base.specs.declared.name.Name.{Name}
use Rattle.switch_engine.specs.Outcome.{any_legal}
use Rattle.sim_laws.specs.Passing.{most_arrivals, AreDrained, GoesThrough, no_out}
use Rattle.sim_laws.specs.journeys.Holding.{HoldsNetwork}
use Rattle.sim_laws.specs.journeys.Moves.{MovesFor, AreMoved}
use Rattle.sim_laws.specs.journeys.Refining.{IsJourney}
use Rattle.sim_laws.specs.journeys.UnderWay.{IsUnderWay}

-- ---- in the network

-- What an event asks of packets takes them so in the network's own words.
abbrev pub TravelLaw : Type 0
TravelLaw = (m : State) (traffic : Traffic) (ends : List End) (after : State) → MovesFor traffic m ends after → Travels m traffic ends after

-- The crossings that wait arrive one after another.
abbrev pub DrainLaw : Type 0
DrainLaw = (m : State) (ends : List End) (after : State) → AreMoved MAX_ARRIVALS m ends after → MovesFor arrive_all m ends after

-- So they do after a packet that enters.
abbrev pub EnterAndDrainLaw : Type 0
EnterAndDrainLaw =
    (m : State) (port : Name) (packet : Packet) (own more : List End) (mid after : State)
    → MovesFor (enter_one port packet) m own mid → AreMoved MAX_ARRIVALS mid more after → MovesFor (enter_and_arrive port packet) m (own ++ more) after

-- ---- on the simulated chassis

-- What the event asks of packets takes them on this journey, on which so many frames were sent.
pub record IsThrough (m : State) (zones : Zoned) (sets : Sets) (more : ℕ) (traffic : Traffic) (before after : SimOut) (new : SimState) : Type 0 where
  pub sent : ℕ
  pub journey : IsJourney m zones sets (more + sent) traffic before after new
  pub count : length (crossings_in journey.ends) ≡ sent

-- All frames that wait arrive, one after another, and those that are sent for them.
abbrev pub AllArriveLaw : Type 0
AllArriveLaw =
    (m : State) (zones : Zoned) (sets : Sets) (more : ℕ) (s new : SimState) (before after : SimOut)
    → IsUnderWay m zones more → HoldsNetwork m zones.numbers sets s
    → AreDrained any_legal m.clock most_arrivals s before after new
    → IsThrough m zones sets more arrive_all before after new

-- The packet of a frame goes in at a port, and then all frames arrive that wait.
abbrev pub GoesThroughLaw : Type 0
GoesThroughLaw =
    (m : State) (zones : Zoned) (sets : Sets) (more : ℕ) (s new : SimState) (port : Name) (frame : List ℕ) (after : SimOut)
    → IsUnderWay m zones more → HoldsNetwork m zones.numbers sets s
    → (through : GoesThrough any_legal m.clock s port frame after new)
    → IsThrough m zones sets more (enter_and_arrive port through.goes_in.packet) no_out after new
