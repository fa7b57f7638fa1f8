-- How many flows the packets of an event match is determined by the network and the choices.
use Rattle.std.specs.Prelude.{◌≡◌, ◌+◌, ◌++◌, ℕ, List, [], ◌∷◌, length, Bool, Some}
use Rattle.chassis_sim.specs.Passing.{IsInjected, IsArrived}
use Rattle.chassis_sim.specs.State.{SimState, at_name}
use Rattle.chassis_sim.specs.declared.out.SimOut.{SimOut}
use Rattle.conn_table.specs.Picks.{Choice, to_backend, to_port}
use Rattle.conn_zones.specs.Zoning.{Zoned}
use Rattle.flow_table.specs.declared.flow.Flow.{Flow}
use Rattle.inet_packet.specs.declared.packet.Packet.{Packet}
use Rattle.match_cubes.specs.Points.{members_of}
use Rattle.match_cubes.specs.declared.sets.Sets.{Sets}
use Rattle.net_model.specs.Sights.{roster_of}
use Rattle.net_model.specs.State.{State}
use Rattle.ovn_base.specs.declared.name.Name.{Name}
use Rattle.physical_flows.specs.ChassisFlows.{AreExactly}
use Rattle.row_laws.specs.Numbers.{AreSameMembers}
use Rattle.switch_engine.specs.OneWalk.{BestAgree}
use Rattle.switch_engine.specs.Outcome.{picks_in, any_legal}
use Rattle.switch_engine.specs.Walk.{IsWalkOf}
use Rattle.switch_engine.specs.Zones.{ZoneLists, zone_at}
use Rattle.switch_engine.specs.declared.effect.Effect.{Effect}
use Rattle.switch_engine.specs.declared.effect.Entry.{Entry}
use Rattle.switch_engine.specs.declared.effect.NetEffect.{NetEffect}
use Rattle.switch_engine.specs.declared.effect.NetEffect.TheVariants as net
use Rattle.switch_engine.specs.declared.walk.Step.{Step}
use Rattle.switch_engine.specs.declared.walk.Walk.{Walk}
use Rattle.sim_laws.specs.Passing.{AreDrained, GoesThrough, no_out}
use Rattle.sim_laws.specs.journeys.Holding.{HoldsNetwork}
use Rattle.sim_laws.specs.journeys.Tables.{ChassisFlow}
use Rattle.sim_laws.specs.journeys.UnderWay.{IsUnderWay}

-- ---- one chassis

-- Two flows of a chassis that may be taken for one packet have equal actions, whatever the packet and the registers.
abbrev pub ChassisAgreeLaw : Type 0
ChassisAgreeLaw =
    (m : State) (zones : Zoned) (more : ℕ) (sets : Sets) → IsUnderWay m zones more → AreSameMembers (roster_of m.config.net).members (members_of sets)
    → (chassis : Name) (flows : List Flow) → AreExactly (ChassisFlow m zones.numbers sets chassis) flows → BestAgree flows

-- the zones hold the same lists
abbrev pub AreSameZones : ZoneLists → ZoneLists → Type 0
AreSameZones zones others = (z : ℕ) → zone_at zones z ≡ zone_at others z

-- the walks are as long, have the same effects, and leave zones that hold the same lists
pub record WalkAlike (steps others : List Step) (effects other_effects : List Effect) (after other_after : ZoneLists) : Type 0 where
  pub same_effects : effects ≡ other_effects
  pub same_zones : AreSameZones after other_after
  pub same_lengths : length steps ≡ length others

-- Two walks of one packet through the flows of a chassis, in whatever order these stand, are alike where they begin with the same lists in zones and
-- make the same choices.
abbrev pub ChassisWalksLaw : Type 0
ChassisWalksLaw =
    (m : State) (zones : Zoned) (more : ℕ) (sets : Sets) → IsUnderWay m zones more → AreSameMembers (roster_of m.config.net).members (members_of sets)
    → (chassis : Name) (flows same_flows : List Flow) → AreExactly (ChassisFlow m zones.numbers sets chassis) flows → AreExactly (ChassisFlow m zones.numbers sets chassis) same_flows
    → (entry : Entry) (now : ℕ) (packet : Packet) (before other_before after other_after : ZoneLists) (steps others : List Step) (effects other_effects : List Effect)
    → AreSameZones before other_before
    → IsWalkOf flows entry now packet before steps effects after
    → IsWalkOf same_flows entry now packet other_before others other_effects other_after
    → picks_in effects ≡ picks_in other_effects
    → WalkAlike steps others effects other_effects after other_after

-- ---- all chassis

-- how many flows packets matched on these walks
abbrev pub matched_on : List Walk → ℕ
matched_on [] = 0
matched_on (walk ∷ walks) = length walk.steps + matched_on walks

-- the choices of which effects tell
abbrev pub choice_told : NetEffect → List Choice → List Choice
choice_told (net.PickBackend datapath vip backend) choices = to_backend backend ∷ choices
choice_told (net.PickPort router port) choices = to_port port ∷ choices
choice_told _ choices = choices

abbrev pub choices_told : List NetEffect → List Choice
choices_told [] = []
choices_told (e ∷ effects) = choice_told e (choices_told effects)

-- these effects came, and these walks
pub record Came (before after : SimOut) : Type 0 where
  pub effects : List NetEffect
  pub walks : List Walk
  pub all_effects : after.effects ≡ before.effects ++ effects
  pub all_walks : after.walks ≡ before.walks ++ walks

-- the zones of each chassis that both have hold the same lists
abbrev pub HaveSameZones : SimState → SimState → Type 0
HaveSameZones s t = (chassis : Name) (lists others : ZoneLists) → at_name s.zones chassis ≡ Some lists → at_name t.zones chassis ≡ Some others → AreSameZones lists others

-- where the same choices were made
pub record AreAlike (one other : List Walk) (new end : SimState) : Type 0 where
  pub count : matched_on one ≡ matched_on other
  pub zones : HaveSameZones new end

-- What came here and what came there: where it tells of the same choices, packets matched as many flows on both, and the same lists are left.
pub record CountsAlike (before after then later : SimOut) (new end : SimState) : Type 0 where
  pub one : Came before after
  pub other : Came then later
  pub alike : choices_told one.effects ≡ choices_told other.effects → AreAlike one.walks other.walks new end

-- two simulations hold the state, with the same lists in their zones
pub record BothHold (m : State) (zones : Zoned) (sets : Sets) (s t : SimState) : Type 0 where
  pub first : HoldsNetwork m zones.numbers sets s
  pub second : HoldsNetwork m zones.numbers sets t
  pub same_zones : HaveSameZones s t

-- So it is with a packet that goes in at a port,
abbrev pub EntryCountLaw : Type 0
EntryCountLaw =
    (m : State) (zones : Zoned) (sets : Sets) (more : ℕ) (s t new end : SimState) (port : Name) (packet : Packet) (before after then later : SimOut)
    → IsUnderWay m zones more → BothHold m zones sets s t
    → IsInjected any_legal s port m.clock packet before after new → IsInjected any_legal t port m.clock packet then later end
    → CountsAlike before after then later new end

-- with a frame that arrives,
abbrev pub ArrivalCountLaw : Type 0
ArrivalCountLaw =
    (m : State) (zones : Zoned) (sets : Sets) (more : ℕ) (s t new end : SimState) (n : ℕ) (keep : Bool) (before after then later : SimOut)
    → IsUnderWay m zones more → BothHold m zones sets s t
    → IsArrived any_legal s n keep m.clock before after new → IsArrived any_legal t n keep m.clock then later end
    → CountsAlike before after then later new end

-- with all frames that wait, which arrive one after another,
abbrev pub DrainCountLaw : Type 0
DrainCountLaw =
    (m : State) (zones : Zoned) (sets : Sets) (more most : ℕ) (s t new end : SimState) (before after then later : SimOut)
    → IsUnderWay m zones more → BothHold m zones sets s t
    → AreDrained any_legal m.clock most s before after new → AreDrained any_legal m.clock most t then later end
    → CountsAlike before after then later new end

-- and with a packet that goes in before all that wait arrive.
abbrev pub ThroughCountLaw : Type 0
ThroughCountLaw =
    (m : State) (zones : Zoned) (sets : Sets) (more : ℕ) (s t new end : SimState) (port : Name) (frame : List ℕ) (after later : SimOut)
    → IsUnderWay m zones more → BothHold m zones sets s t
    → GoesThrough any_legal m.clock s port frame after new → GoesThrough any_legal m.clock t port frame later end
    → CountsAlike no_out after no_out later new end
