-- The simulated chassis hold a state of the network.
use Rattle.std.specs.Prelude.{◌≡◌, ◌↔◌, List, map, Some, IsSome}
use Rattle.chassis_sim.specs.Holding.{AreZoned}
use Rattle.chassis_sim.specs.State as sim
use Rattle.chassis_sim.specs.State.{at_name}
use Rattle.conn_zones.specs.Zoning.{GivenNumbers}
use Rattle.flow_table.specs.declared.flow.Flow.{Flow}
use Rattle.match_cubes.specs.Points.{members_of}
use Rattle.match_cubes.specs.declared.sets.Sets.{Sets}
use Rattle.net_model.specs.Sights.{roster_of}
use Rattle.net_model.specs.State.{State}
use Rattle.ovn_base.specs.declared.name.Name.{Name}
use Rattle.ovn_base.specs.lists.Among.{Among}
use Rattle.ovn_base.specs.names.ByName.{at}
use Rattle.physical_flows.specs.ChassisFlows.{AreExactly}
use Rattle.row_laws.specs.Numbers.{AreSameMembers}
use Rattle.switch_engine.specs.Zones.{ZoneLists}
use Rattle.sim_laws.specs.Held.{HaveOwnersNames, frame_of_crossing}
use Rattle.sim_laws.specs.journeys.InState.{zones_on}
use Rattle.sim_laws.specs.journeys.Tables.{ChassisFlow}
use Rattle.sim_laws.specs.pipelines.HeldLists.{HoldLists}

-- The simulated chassis are those of the state: each holds exactly its flows, each once, and has zones, in which are the connection lists of who is at
-- home on it; and the frames that wait are those of the crossings.
pub record HoldsNetwork (m : State) (numbers : GivenNumbers) (sets : Sets) (s : sim.SimState) : Type 0 where
  pub bindings : (q : Name) → at_name s.bindings q ≡ at m.config.bindings q
  pub names : HaveOwnersNames m.keys s
  pub held : (c : Name) → IsSome (at_name s.chassis c) ↔ Among c m.config.chassis
  -- rows are lowered with the sets of the network
  pub members : AreSameMembers (roster_of m.config.net).members (members_of sets)
  pub tables : (c : Name) (flows : List Flow) → at_name s.chassis c ≡ Some flows → AreExactly (ChassisFlow m numbers sets c) flows
  -- just the chassis that are held have zones
  pub zoned : AreZoned s.chassis s.zones
  pub zones : (c : Name) (lists : ZoneLists) → at_name s.zones c ≡ Some lists → HoldLists (zones_on numbers c) lists m.lists
  pub waiting : s.waiting ≡ map (frame_of_crossing m.keys) m.waiting
  pub next : s.next ≡ m.next
