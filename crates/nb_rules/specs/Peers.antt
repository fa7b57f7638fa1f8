-- Partners of router ports.
use Rattle.std.specs.Prelude.{◌||◌, Bool, true, false, not, Option, Some, None}
use Rattle.std.specs.List.{list_any}
use Rattle.std.specs.Option.{option_and_then}
use Rattle.ovn_base.specs.declared.name.Name.{Name}
use Rattle.ovn_base.specs.names.ByName.{at}
use Rattle.ovn_base.specs.names.SameName.{same_name}
use Rattle.nb_records.specs.Network.{Network}
use Rattle.nb_records.specs.Switches.{is_given}
use Rattle.nb_records.specs.declared.router.Router.{Router}
use Rattle.nb_records.specs.declared.router.RouterPort.{RouterPort}
use Rattle.nb_records.specs.declared.switch.SwitchPort.{SwitchPort}
use Rattle.nb_rules.specs.First.{first_of, fault_if, has_second}
use Rattle.nb_rules.specs.declared.fault.SchemaFault.{SchemaFault}
use Rattle.nb_rules.specs.declared.fault.SchemaFault.TheVariants as fault

-- the router port is behind the switch port
abbrev pub is_behind : RouterPort → SwitchPort → Bool
is_behind p q = is_given p.name q.router_port

-- the router ports are joined: one of them names the other as its peer
abbrev pub is_joined_to : RouterPort → RouterPort → Bool
is_joined_to p q = is_given q.name p.peer || is_given p.name q.peer

-- two different ports are the port's partners
abbrev pub has_two_partners : Network → RouterPort → Bool
has_two_partners net p =
    has_second (λ (e : Name × SwitchPort). is_behind p e.1) false net.switch_ports
    || has_second (λ (e : Name × RouterPort). is_joined_to p e.1) (list_any (λ (e : Name × SwitchPort). is_behind p e.1) net.switch_ports) net.router_ports

-- both are given and are one, or none is
abbrev pub same_given : Option Name → Option Name → Bool
same_given None None = true
same_given (Some a) (Some b) = same_name a b
same_given _ _ = false

-- the chassis of the router, where it is a gateway router
abbrev pub chassis_of : Network → Name → Option Name
chassis_of net router = option_and_then (λ (r : Router). r.chassis) (at net.routers router)

-- the peer is a port of the same router, or of one with another chassis
abbrev pub is_wrong_peer : Network → RouterPort → Option RouterPort → Bool
is_wrong_peer net p None = false
is_wrong_peer net p (Some q) = same_name q.router p.router || not (same_given (chassis_of net q.router) (chassis_of net p.router))

-- the port that it names as its peer
abbrev pub peer_of : Network → RouterPort → Option RouterPort
peer_of net p = option_and_then (at net.router_ports) p.peer

abbrev pub has_bad_peer : Network → RouterPort → Bool
has_bad_peer net p = has_two_partners net p || (is_given p.name p.peer || is_wrong_peer net p (peer_of net p))

abbrev pub peer_fault : Network → RouterPort → Option SchemaFault
peer_fault net p = fault_if (has_bad_peer net p) (fault.BadPeer p.name)

-- a router port has two partners, is its own, or has a wrong peer
unfoldable pub bad_peer : Network → Option SchemaFault
bad_peer net = first_of (peer_fault net) net.router_ports
