-- The ports of a switch, each with what the groups ask of it, and the rows of the groups from them.
use Rattle.std.specs.Prelude.{ℕ, Bool, true, false, ◌&&◌, cond, List, None, Option, filter, filter_map, map, unwrap_or}
use Rattle.std.specs.Option.{option_map}
use Rattle.ovn_base.specs.declared.name.Name.{Name}
use Rattle.ovn_base.specs.names.ByName.{at}
use Rattle.flow_table.specs.declared.flow.Flow.{Flow}
use Rattle.flow_table.specs.declared.flow.Member.{Member}
use Rattle.nb_records.specs.declared.switch.SwitchPort.{SwitchPort}
use Rattle.net_model.specs.Config.{Home, home_of}
use Rattle.net_model.specs.declared.crossing.Group.{Group}
use Rattle.net_model.specs.declared.crossing.Group.TheVariants.{Flood, Unknown}
use Rattle.physical_flows.specs.Homes.{is_reached_at}
use Rattle.physical_flows.specs.declared.place.Placed.{Placed}
use Rattle.physical_flows.specs.Stages.{Basis, config_of, zone_of}
use Rattle.physical_flows.specs.TableList.{group_rows, is_group_member, one_home, others_among}

-- ---- a port

-- the zone of a port where it is reached on this chassis, or else 0
abbrev pub zone_here : Basis → Bool → Name → ℕ
zone_here b true q = unwrap_or (zone_of b q) 0
zone_here b false q = 0

-- the port with its key and its record, at home there
abbrev pub placed_at : Basis → Name × ℕ → SwitchPort → Home → Placed
placed_at b e port home = record {
  member = record { key = e.1; zone = zone_here b (is_reached_at false b.chassis home) e.0 };
  home = one_home home;
  here = is_reached_at false b.chassis home;
  reached = is_reached_at true b.chassis home;
  flood = is_group_member Flood port;
  unknown = is_group_member Unknown port;
}

abbrev pub placed_port : Basis → Name × ℕ → SwitchPort → Placed
placed_port b e port = placed_at b e port (home_of (config_of b) port)

-- those of the ports that have records
abbrev pub placed_among : Basis → List (Name × ℕ) → List Placed
placed_among b ports = filter_map (λ e. option_map (placed_port b e) (at b.net.switch_ports e.0)) ports

-- ---- a group

-- the port is in the group
abbrev pub is_in : Group → Placed → Bool
is_in Flood p = p.flood
is_in Unknown p = p.unknown

-- a packet for it reaches it on this chassis
abbrev pub is_reached_by : Bool → Placed → Bool
is_reached_by false p = p.here
is_reached_by true p = p.reached

-- the one chassis on which a member is at home
abbrev pub home_in : Group → Placed → Option Name
home_in group p = cond (is_in group p) p.home None

abbrev pub is_reached_in : Group → Bool → Placed → Bool
is_reached_in group arrived p = is_in group p && is_reached_by arrived p

-- the chassis on which members are at home, and the members that are reached on this one
abbrev pub placed_homes : Group → List Placed → List Name
placed_homes group ports = filter_map (λ p. home_in group p) ports

abbrev pub placed_members : Group → Bool → List Placed → List Member
placed_members group arrived ports = map (λ p. p.member) (filter (λ p. is_reached_in group arrived p) ports)

-- the rows of a group
abbrev pub rows_placed : Basis → ℕ → Group → List Placed → List Flow
rows_placed b dp group ports = group_rows dp group (others_among b (placed_homes group ports)) (placed_members group false ports) (placed_members group true ports)
