-- The tables and the zones of the chassis, as they are held.
use Rattle.std.specs.Prelude.{ℕ, List, map}
use Rattle.ovn_base.specs.declared.name.Name.{Name}
use Rattle.flow_table.specs.declared.flow.Flow.{Flow}
use Rattle.switch_engine.specs.Zones.{HeldZones, ZoneLists}

-- each value with what is seen of it
abbrev pub seen_by : {T X : Type 0} → (T → X) → Name × T → Name × X
seen_by f entry = (entry.0, f entry.1)

-- the flows of each chassis
abbrev pub flows_held : {T : Type 0} → (T → List Flow) → List (Name × T) → List (Name × List Flow)
flows_held flows entries = map (seen_by flows) entries

-- the connection lists of each chassis
abbrev pub zones_held : List (Name × HeldZones) → List (Name × ZoneLists)
zones_held entries = map (seen_by (λ held. held.zones)) entries

-- for how many more zones each chassis has room
abbrev pub rooms_held : List (Name × HeldZones) → List (Name × ℕ)
rooms_held entries = map (seen_by (λ held. held.room)) entries
