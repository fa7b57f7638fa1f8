-- Where ports are at home, and the groups of a switch, of what a chassis works by.
use Rattle.std.specs.Prelude.{◌≡◌, Bool, true, false, List, filter}
use Rattle.std.specs.List.{AllByRecursion}
use Rattle.ovn_base.specs.declared.name.Name.{Name}
use Rattle.nb_records.specs.Network.{Network}
use Rattle.nb_records.specs.declared.switch.SwitchPort.{SwitchPort}
use Rattle.net_model.specs.Config.{Config, Home, home_of, is_on, is_here}
use Rattle.net_model.specs.Spread as spread
use Rattle.net_model.specs.Targets.{members}
use Rattle.net_model.specs.declared.crossing.Group.{Group}

-- The port is at home on the chassis, and for a packet that came out of a tunnel on no other: a distributed router is entered where the
-- packet was sent.
abbrev pub is_reached_at : Bool → Name → Home → Bool
is_reached_at false chassis home = is_here chassis home
is_reached_at true chassis home = is_on chassis home

-- the members of a group of the switch that are reached on the chassis, in order of name
abbrev pub members_at : Config → Name → Group → Bool → Name → List SwitchPort
members_at c switch group arrived chassis = filter (λ q. is_reached_at arrived chassis (home_of c q)) (members c.net switch group)

-- the other chassis on which a member is at home, in order of name
abbrev pub homes_at : Config → Name → Group → Name → List Name
homes_at c switch group chassis = spread.other_homes c chassis (members c.net switch group)

-- each port stands under its own name
abbrev pub ArePortsNamed : Network → Type 0
ArePortsNamed net = AllByRecursion (λ e. e.1.name ≡ e.0) net.switch_ports
