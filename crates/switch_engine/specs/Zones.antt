-- The connection lists of a chassis.
use Rattle.std.specs.Prelude.{◌≡◌, ◌≢◌, ℕ, nat_eq, Bool, List, [], map, Option, Some, None}
use Rattle.std.specs.Map.{lookup, set_value}
use Rattle.conn_table.specs.Connections.{ConnectionList, expired}
use Rattle.inet_packet.specs.declared.regs.Regs.{Regs}
use Rattle.flow_table.specs.declared.flow.ZoneOf.{ZoneOf}
use Rattle.flow_table.specs.declared.flow.ZoneOf.TheVariants.{In, Out, Dnat, Snat}

-- each zone has a number, and the list that stands under it
abbrev pub ZoneLists : Type 0
ZoneLists = List (ℕ × ConnectionList)

-- the zones, and how many more there is room for
pub record HeldZones : Type 0 where
  pub zones : ZoneLists
  pub room : ℕ

-- the list of the zone, if it is there
abbrev pub zone_at : ZoneLists → ℕ → Option ConnectionList
zone_at zones z = lookup (nat_eq z) zones

-- another list of the zone, if it is there
abbrev pub with_zone : ZoneLists → ℕ → ConnectionList → ZoneLists
with_zone zones z list = set_value (nat_eq z) zones list

-- the list of the zone changed so, if it is there
abbrev pub over_list : (ConnectionList → ConnectionList) → ℕ → ZoneLists → Option ConnectionList → ZoneLists
over_list change z zones None = zones
over_list change z zones (Some list) = with_zone zones z (change list)

abbrev pub over_zone : (ConnectionList → ConnectionList) → ℕ → ZoneLists → ZoneLists
over_zone change z zones = over_list change z zones (zone_at zones z)

-- the number of a zone stands in a register
abbrev pub zone_number : ZoneOf → Regs → ℕ
zone_number In regs = regs.z_in
zone_number Out regs = regs.z_out
zone_number Dnat regs = regs.z_dnat
zone_number Snat regs = regs.z_snat

-- the zones without their idle connections
abbrev pub all_expired : ℕ → ZoneLists → ZoneLists
all_expired now zones = map (λ (z : ℕ × ConnectionList). (z.0, expired now z.1)) zones

-- the zone of the number is there, empty, and each other zone stays
pub record IsEmptied (number : ℕ) (old new : ZoneLists) : Type 0 where
  pub empty : zone_at new number ≡ Some []
  pub others : (z : ℕ) → z ≢ number → zone_at new z ≡ zone_at old z
