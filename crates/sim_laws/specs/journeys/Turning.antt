-- Turns of the configuration, on the simulated chassis as in the network.
use Rattle.std.specs.Prelude.{◌≡◌, ℕ, List, map}
use Rattle.chassis_sim.specs.Changing.{AllAreDeltas, IsApplied, given_name}
use Rattle.chassis_sim.specs.Settings.{AreSet, set_in_turn}
use Rattle.chassis_sim.specs.State.{SimState, same_pair}
use Rattle.chassis_sim.specs.declared.change.SimChange.{SimChange}
use Rattle.conn_zones.specs.Zoning.{Zoned, GivenNumbers}
use Rattle.flow_table.specs.declared.flow.Flow.{Flow}
use Rattle.match_cubes.specs.Points.{members_of}
use Rattle.match_cubes.specs.declared.sets.Sets.{Sets}
use Rattle.net_model.specs.Sights.{roster_of}
use Rattle.net_model.specs.State.{State}
use Rattle.net_model.specs.Transition.{Turn}
use Rattle.ovn_base.specs.declared.name.Name.{Name}
use Rattle.ovn_base.specs.names.ByName.{at}
use Rattle.ovn_base.specs.names.SameName.{same_name}
use Rattle.row_laws.specs.Numbers.{AreSameMembers}
use Rattle.tunnel_keys.specs.Keys.{Keys}
use Rattle.sim_laws.specs.Held.{HaveOwnersNames, frame_of_crossing}
use Rattle.sim_laws.specs.journeys.Holding.{HoldsNetwork}
use Rattle.sim_laws.specs.journeys.Tables.{ChassisFlow}
use Rattle.sim_laws.specs.journeys.TurnedTables.{IsTurnOfTables}
use Rattle.sim_laws.specs.journeys.TurnedZones.{IsTurnOfZones, turned_with}
use Rattle.physical_flows.specs.Bindings.{AreBound}
use Rattle.sim_laws.specs.journeys.UnderWay.{IsUnderWay}

module _ {T : Type 0} (flows_of : T → List Flow) where
  -- The change tells the simulated chassis of the turn, with the keys, the numbers of zones and the sets that there are then: ports are bound as
  -- they are then, live keys have their owners' names, and tables and zones change so. The frames that wait are spelled as before.
  pub record TellsTurn (m : State) (turn : Turn) (keys : Keys) (before after : GivenNumbers) (sets others : Sets) (change : SimChange T) : Type 0 where
    pub bindings : (q : Name) → set_in_turn same_name change.bound q (at m.config.bindings q) ≡ at turn.next.bindings q
    pub names : (old new : SimState) → HaveOwnersNames m.keys old → AreSet same_pair (map given_name change.names) old.names new.names → HaveOwnersNames keys new
    pub frames : map (frame_of_crossing keys) m.waiting ≡ map (frame_of_crossing m.keys) m.waiting
    pub members : AreSameMembers (roster_of turn.next.net).members (members_of others)
    pub tables : IsTurnOfTables flows_of m.config.chassis turn.next.chassis (ChassisFlow m before sets) (ChassisFlow (turned_with turn keys m) after others) change
    pub zones : IsTurnOfZones m turn before after change.emptied

  -- Once the change is made, the chassis hold the state after the turn.
  abbrev pub TurnLaw : Type 0
  TurnLaw =
      (m : State) (zones later : Zoned) (sets others : Sets) (more : ℕ) (turn : Turn) (keys : Keys) (change : SimChange T) (s new : SimState)
      → IsUnderWay m zones more → AreBound turn.next later → HoldsNetwork m zones.numbers sets s
      → TellsTurn m turn keys zones.numbers later.numbers sets others change → IsApplied flows_of s change new
      → HoldsNetwork (turned_with turn keys m) later.numbers others new

  -- Each delta is one of the flows of its chassis.
  abbrev pub DeltaLaw : Type 0
  DeltaLaw =
      (m : State) (before after : GivenNumbers) (sets others : Sets) (turn : Turn) (keys : Keys) (change : SimChange T) (s : SimState)
      → HoldsNetwork m before sets s → TellsTurn m turn keys before after sets others change → AllAreDeltas s.chassis change.tables
