-- What the laws of passes ask of a chassis, soundness and what is held give.
use Rattle.std.specs.Prelude.{◌≡◌, ◌≤◌, ℕ, false, List, Some, None, IsSome}
use Rattle.chassis_sim.specs.State as sim
use Rattle.chassis_sim.specs.State.{at_name}
use Rattle.conn_zones.specs.Zoning.{Zoned, GivenNumbers, number_on}
use Rattle.conn_zones.specs.declared.numbers.TheConstants.{MAX_ZONE}
use Rattle.conn_zones.specs.declared.numbers.ZoneUse.{ZoneUse}
use Rattle.conn_zones.specs.declared.numbers.ZoneUse.TheVariants.{Port}
use Rattle.flow_table.specs.declared.flow.Flow.{Flow}
use Rattle.match_cubes.specs.declared.sets.Sets.{Sets}
use Rattle.nb_records.specs.Switches.{is_virtual}
use Rattle.nb_records.specs.declared.switch.SwitchPort.{SwitchPort}
use Rattle.net_model.specs.Owners.{owners_of}
use Rattle.net_model.specs.State.{State}
use Rattle.net_model.specs.Trail.{of_port}
use Rattle.net_model.specs.declared.crossing.Crossing.{Crossing}
use Rattle.ovn_base.specs.declared.name.Name.{Name}
use Rattle.ovn_base.specs.lists.Among.{Among}
use Rattle.ovn_base.specs.names.ByName.{at}
use Rattle.switch_engine.specs.Outcome.{Choosing}
use Rattle.switch_engine.specs.declared.effect.Entry.{Entry}
use Rattle.tunnel_keys.specs.Edits.{IsLive}
use Rattle.tunnel_keys.specs.declared.owner.KeyOwner.{KeyOwner}
use Rattle.sim_laws.specs.journeys.Holding.{HoldsNetwork}
use Rattle.sim_laws.specs.journeys.InState.{chassis_at}
use Rattle.sim_laws.specs.journeys.UnderWay.{IsUnderWay}
use Rattle.sim_laws.specs.passes.Arriving.{AreOwned, MayArrive}
use Rattle.sim_laws.specs.pipelines.HeldLists.{AreApart}
use Rattle.sim_laws.specs.pipelines.Standing.{Chassis, net_of}
use Rattle.sim_laws.specs.routers.Patches.{AreZonedHere, IsLaidAround}

-- Who has a key by the records has a live one, and on switches nobody else does; who is at home has a zone, each of its own, and a router that translates
-- two; no port that leads to a router is bound; and each crossing that waits may arrive.
pub record IsSoundOn (m : State) (numbers : GivenNumbers) (s : Chassis) : Type 0 where
  pub live : (owner : KeyOwner) → Among owner (owners_of (net_of s)) → IsLive s.keys owner
  pub owned : AreOwned s
  pub apart : AreApart s.number
  pub number : (q : Name) → s.number (of_port q) ≡ number_on numbers s.scene.here (Port q)
  pub zoned : (q : Name) → at s.scene.config.bindings q ≡ Some s.scene.here → IsSome (s.number (of_port q))
  pub in_range : (zone : ZoneUse) (n : ℕ) → number_on numbers s.scene.here zone ≡ Some n → n ≤ MAX_ZONE
  pub routers_zoned : AreZonedHere s numbers
  pub unbound : (q : SwitchPort) → at (net_of s).switch_ports q.name ≡ Some q → is_virtual q ≡ false → at s.scene.config.bindings q.name ≡ None
  pub arrive : (n : ℕ) (x : Crossing) → Among (n, x) m.waiting → MayArrive s x

-- A sound state is so on each of its chassis.
abbrev pub SoundOnLaw : Type 0
SoundOnLaw =
    (m : State) (zones : Zoned) (more : ℕ) → IsUnderWay m zones more
    → (sets : Sets) (by : Choosing) (flows : List Flow) (entry : Entry) (chassis : Name) → IsSoundOn m zones.numbers (chassis_at m zones.numbers sets by flows entry chassis)

-- the chassis has what the laws of passes ask
pub record IsReadyForPasses (s : Chassis) (numbers : GivenNumbers) : Type 0 where
  pub around : IsLaidAround s numbers
  pub owned : AreOwned s

-- Each chassis that is held has it.
abbrev pub ReadyLaw : Type 0
ReadyLaw =
    (m : State) (zones : Zoned) (more : ℕ) (sets : Sets) (s : sim.SimState) → IsUnderWay m zones more → HoldsNetwork m zones.numbers sets s
    → (chassis : Name) (flows : List Flow) → at_name s.chassis chassis ≡ Some flows
    → (by : Choosing) (entry : Entry) → IsReadyForPasses (chassis_at m zones.numbers sets by flows entry chassis) zones.numbers
