-- The connection lists of the network, as the zones of the chassis have them.
use Rattle.std.specs.Prelude.{◌≡◌, ℕ, List, [], map, Option, Some, None, unwrap_or}
use Rattle.chassis_sim.specs.State.{SimState, at_name}
use Rattle.conn_table.specs.Connections.{ConnectionList}
use Rattle.conn_zones.specs.Zoning.{Zoned, GivenNumbers, number_on}
use Rattle.conn_zones.specs.declared.numbers.ZoneUse.{ZoneUse}
use Rattle.conn_zones.specs.declared.numbers.ZoneUse.TheVariants.{Port, Dnat, Snat}
use Rattle.match_cubes.specs.declared.sets.Sets.{Sets}
use Rattle.net_model.specs.State.{State}
use Rattle.net_model.specs.Trail.{Lists}
use Rattle.ovn_base.specs.declared.name.Name.{Name}
use Rattle.switch_engine.specs.Zones.{ZoneLists, zone_at}
use Rattle.sim_laws.specs.journeys.Holding.{HoldsNetwork}
use Rattle.sim_laws.specs.journeys.UnderWay.{IsUnderWay}

-- the list in the zone of that number, of the zones of a chassis; an empty one where there is none
abbrev pub list_in : Option ZoneLists → Option ℕ → ConnectionList
list_in None n = []
list_in (Some lists) None = []
list_in (Some lists) (Some z) = unwrap_or (zone_at lists z) []

-- who is at home, in order of name, each with the list in its zone on its chassis
abbrev pub lists_at : GivenNumbers → List (Name × ZoneLists) → (Name → ZoneUse) → List (Name × Name) → List (Name × ConnectionList)
lists_at numbers held whose homes = map (λ (e : Name × Name). (e.0, list_in (at_name held e.1) (number_on numbers e.1 (whose e.0)))) homes

-- the lists of all who are at home, by the zones of each chassis
abbrev pub lists_seen : Zoned → List (Name × ZoneLists) → Lists
lists_seen zones held = record {
  ports = lists_at zones.numbers held Port zones.homes.ports;
  dnats = lists_at zones.numbers held Dnat zones.homes.routers;
  snats = lists_at zones.numbers held Snat zones.homes.routers;
}

-- They are the lists of the network.
abbrev pub SeenListsLaw : Type 0
SeenListsLaw =
    (m : State) (zones : Zoned) (sets : Sets) (more : ℕ) (s : SimState)
    → IsUnderWay m zones more → HoldsNetwork m zones.numbers sets s → m.lists ≡ lists_seen zones s.zones
