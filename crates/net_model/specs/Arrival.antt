-- What becomes of a packet that arrives from another chassis.
use Rattle.std.specs.Prelude.{◌&&◌, not, ℕ, Bool, true, false, List, Option, Some, None, cond}
use Rattle.std.specs.List.{filter}
use Rattle.nb_records.specs.Network.{Network}
use Rattle.nb_records.specs.declared.switch.Switch.{Switch}
use Rattle.nb_records.specs.declared.switch.SwitchPort.{SwitchPort}
use Rattle.ovn_base.specs.names.ByName.{at}
use Rattle.tunnel_keys.specs.Same.{same_identity}
use Rattle.tunnel_keys.specs.declared.owner.Identity.{Identity}
use Rattle.net_model.specs.declared.crossing.Aim.{Aim}
use Rattle.net_model.specs.declared.crossing.Aim.TheVariants.{ToPort, ToGroup}
use Rattle.net_model.specs.declared.crossing.Crossing.{Crossing}
use Rattle.net_model.specs.Config.{switch_identity, port_identity, home_of, is_on}
use Rattle.net_model.specs.Entry.{Scene}
use Rattle.net_model.specs.Exit.{leave}
use Rattle.net_model.specs.Spread.{copy_to_each}
use Rattle.net_model.specs.Targets.{members}
use Rattle.net_model.specs.Trail.{Trail, is_lost, tell}
use Rattle.net_model.specs.Visit.{passing_on}

-- the switch of that identity is there
abbrev pub is_that_switch : Identity → Option Switch → Bool
is_that_switch id None = false
is_that_switch id (Some switch) = same_identity (switch_identity switch) id

abbrev pub is_switch : Network → Identity → Bool
is_switch net id = is_that_switch id (at net.switches id.name)

-- the port is at home on the chassis, and on no other: a distributed router is entered where the packet was sent
abbrev pub is_reached : Scene → SwitchPort → Bool
is_reached s q = is_on s.here (home_of s.config q)

-- the one port to which a packet came, where it is there and reached
abbrev pub port_reached : Scene → Identity → Option SwitchPort → Option SwitchPort
port_reached s id None = None
port_reached s id (Some q) = cond (same_identity (port_identity q) id && is_reached s q) (Some q) None

-- the members of a group that are reached, but the port of entry
abbrev pub members_reached : Scene → Identity → List SwitchPort → List SwitchPort
members_reached s came qs = filter (λ q. is_reached s q && not (same_identity (port_identity q) came)) qs

abbrev pub reach_port : Scene → ℕ → Crossing → Option SwitchPort → Trail → Trail
reach_port s n x None t = tell (is_lost n) t
reach_port s n x (Some q) t = leave (passing_on s) s x.in_port q t x.packet

abbrev pub reach : Scene → ℕ → Crossing → Aim → Trail → Trail
reach s n x (ToPort id) t = reach_port s n x (port_reached s id (at s.config.net.switch_ports id.name)) t
reach s n x (ToGroup g) t = copy_to_each (leave (passing_on s) s x.in_port) (members_reached s x.in_port (members s.config.net x.datapath.name g)) t x.packet

abbrev pub reach_if : Bool → Scene → ℕ → Crossing → Trail → Trail
reach_if true s n x t = reach s n x x.aim t
reach_if false s n x t = tell (is_lost n) t

-- The crossing of number n arrives on the chassis: it is lost where its switch is gone, or where its one port isn't reached. Where
-- the chassis is gone there is no scene, and it is lost too.
abbrev pub arrival : Scene → ℕ → Crossing → Trail → Trail
arrival s n x t = reach_if (is_switch s.config.net x.datapath) s n x t
