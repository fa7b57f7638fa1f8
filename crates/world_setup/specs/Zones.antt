-- What events do to the homes of ports, to the numbers of their zones, and to the connection lists in these.
use Rattle.std.specs.Prelude.{◌≡◌, ◌+◌, ℕ, List, [], ◌∷◌, map, Option, None, Some}
use Rattle.std.specs.List.{filter}
use Rattle.std.specs.Option.{option_and_then, option_map}
use Rattle.ovn_base.specs.declared.name.Name.{Name}
use Rattle.ovn_base.specs.names.SameName.{same_name}
use Rattle.chassis_sim.specs.Changing.{emptied_at}
use Rattle.chassis_sim.specs.State.{SimState, at_name}
use Rattle.conn_table.specs.Connections.{ConnectionList, expired}
use Rattle.conn_zones.specs.Rezoning.{IsRezoned}
use Rattle.conn_zones.specs.Zoning.{Zoned, number_on}
use Rattle.conn_zones.specs.declared.change.HomeChange.{HomeChange}
use Rattle.conn_zones.specs.declared.numbers.ZoneUse.TheVariants.{Port}
use Rattle.edit_reader.specs.declared.event.Event.{Event}
use Rattle.edit_reader.specs.declared.event.Event.TheVariants.{Edit, Bind, Unbind, AddChassis, RemoveChassis, Keys, Health, Clock, Inject, Deliver, Lose, Repeat, Drain, Packet, Unread}
use Rattle.sim_laws.specs.journeys.TurnedZones.{coming_home, routers_coming, zone_numbered, zones_begun}
use Rattle.switch_engine.specs.Zones.{ZoneLists, zone_at}

-- the port is at home on the chassis from now on
abbrev pub home_change : Name → Name → HomeChange
home_change p chassis = record { ports = (p, Some chassis) ∷ []; routers = [] }

-- the port is at home nowhere
abbrev pub unbinding : Name → HomeChange
unbinding p = record { ports = (p, None) ∷ []; routers = [] }

-- nor is who was at home on the chassis
abbrev pub left_homeless : Name → List (Name × Name) → List (Name × Option Name)
left_homeless chassis homes = map (λ e. (e.0, None)) (filter (λ (e : Name × Name). same_name e.1 chassis) homes)

abbrev pub leaving : Zoned → Name → HomeChange
leaving before chassis = record { ports = left_homeless chassis before.homes.ports; routers = left_homeless chassis before.homes.routers }

-- homes and numbers before and after an accepted event: a port that is bound is at home on its chassis, and one that is unbound, or whose
-- chassis goes, is so nowhere; with an edit, and with a chassis, gateway routers come home, whose homes follow from the configuration; records don't
-- go yet, and nothing else changes them
abbrev pub Rezones : Event → Zoned → Zoned → Type 0
Rezones (Edit ops) before after = IsRezoned before (coming_home before.homes after.homes) after
Rezones (Bind p chassis) before after = IsRezoned before (home_change p chassis) after
Rezones (Unbind p) before after = IsRezoned before (unbinding p) after
Rezones (AddChassis chassis) before after = IsRezoned before (coming_home before.homes after.homes) after
Rezones (RemoveChassis chassis) before after = IsRezoned before (leaving before chassis) after
Rezones (Keys datapaths ports) before after = after ≡ before
Rezones (Health balancer backend online) before after = after ≡ before
Rezones (Clock seconds) before after = after ≡ before
Rezones (Inject p frame) before after = after ≡ before
Rezones (Deliver n) before after = after ≡ before
Rezones (Lose n) before after = after ≡ before
Rezones (Repeat n) before after = after ≡ before
Rezones Drain before after = after ≡ before
Rezones (Packet p frame) before after = after ≡ before
Rezones (Unread fault) before after = after ≡ before

-- ---- connection lists

-- the zones that an event empties, by the numbers after it: a port that is bound begins with its own, and so do gateway routers that come home
abbrev pub emptied_by : Event → Zoned → Zoned → List (Name × ℕ)
emptied_by (Edit ops) before after = zones_begun after.numbers (routers_coming before.homes after.homes)
emptied_by (Bind p chassis) before after = zone_numbered chassis (number_on after.numbers chassis (Port p))
emptied_by (AddChassis chassis) before after = zones_begun after.numbers (routers_coming before.homes after.homes)
emptied_by other before after = []

-- what an event at the time leaves of a list, beside that: where the clock goes on, idle connections go
abbrev pub left_by : Event → ℕ → Option ConnectionList → Option ConnectionList
left_by (Clock seconds) now list = option_map (expired (now + seconds)) list
left_by other now list = list

-- the list in the zone of that number on the chassis, if it is there
abbrev pub list_on : SimState → Name → ℕ → Option ConnectionList
list_on s chassis z = option_and_then (λ (lists : ZoneLists). zone_at lists z) (at_name s.zones chassis)

-- the lists in all zones of the chassis before and after an event that moves no packets, whether their numbers are anybody's or not: the zones that it
-- empties are there and empty, and all others are as it leaves them; so a chassis that comes has no other
abbrev pub Relists : Event → ℕ → Zoned → Zoned → SimState → SimState → Type 0
Relists event now before after old new =
    (chassis : Name) (lists : ZoneLists) → at_name new.zones chassis ≡ Some lists
    → (z : ℕ) → zone_at lists z ≡ emptied_at (emptied_by event before after) chassis z (left_by event now (list_on old chassis z))
