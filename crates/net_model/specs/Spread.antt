-- A packet in a switch goes to its target, here or on other chassis.
use Rattle.std.specs.Prelude.{◌&&◌, not, Bool, true, false, List, [], ◌∷◌}
use Rattle.std.specs.List.{filter, list_any}
use Rattle.flow_table.specs.declared.flow.Cause.TheVariants as cause
use Rattle.inet_packet.specs.Rewrites.{with_arp_reply}
use Rattle.inet_packet.specs.declared.packet.Packet.{Packet}
use Rattle.nb_records.specs.declared.switch.SwitchPort.{SwitchPort}
use Rattle.ovn_base.specs.declared.name.Name.{Name}
use Rattle.ovn_base.specs.names.SameName.{same_name}
use Rattle.tunnel_keys.specs.declared.owner.Identity.{Identity}
use Rattle.net_model.specs.declared.crossing.Aim.{Aim}
use Rattle.net_model.specs.declared.crossing.Aim.TheVariants.{ToPort, ToGroup}
use Rattle.net_model.specs.declared.crossing.Crossing.{Crossing}
use Rattle.net_model.specs.declared.crossing.Group.{Group}
use Rattle.net_model.specs.Config.{Config, Home, nowhere, on, everywhere, home_of, is_on, is_here, port_identity}
use Rattle.net_model.specs.Entry.{Scene, Onward}
use Rattle.net_model.specs.Exit.{leave}
use Rattle.net_model.specs.Targets.{Target, answer_from, to_one, to_group, to_nobody, members, is_other}
use Rattle.net_model.specs.Trail.{Trail, crosses, tell, spot_of, drop_for}

-- from where a packet is sent: the switch, and the port by which it came into that
pub record SentFrom : Type 0 where
  pub switch : Identity
  pub port : SwitchPort

abbrev pub crossing_to : SentFrom → Aim → Name → Packet → Crossing
crossing_to from aim home p = record { datapath = from.switch; in_port = port_identity from.port; aim = aim; home = home; packet = p }

-- ---- to one port

-- a port that is here, where the port of entry gets no packet back
abbrev pub send_here : Bool → Onward → Scene → SentFrom → SwitchPort → Trail → Packet → Trail
send_here true onward s from o t p = leave onward s (port_identity from.port) o t p
send_here false onward s from o t p = drop_for cause.Loopback (spot_of o) t

-- a port that is at home on one chassis: on this one, or the packet crosses to it
abbrev pub send_over : Bool → Onward → Scene → SentFrom → SwitchPort → Name → Trail → Packet → Trail
send_over true onward s from o home t p = send_here (is_other from.port o) onward s from o t p
send_over false onward s from o home t p = tell (crosses s.here (crossing_to from (ToPort (port_identity o)) home p)) t

-- a distributed router is here, on whichever chassis the packet is
abbrev pub send_home : Home → Onward → Scene → SentFrom → SwitchPort → Trail → Packet → Trail
send_home nowhere onward s from o t p = drop_for cause.Unbound (spot_of o) t
send_home (on home) onward s from o t p = send_over (same_name home s.here) onward s from o home t p
send_home everywhere onward s from o t p = send_here (is_other from.port o) onward s from o t p

-- ---- to a group

-- the other chassis on which one of the ports is at home, in order of name
abbrev pub other_homes : Config → Name → List SwitchPort → List Name
other_homes c here qs = filter (λ chassis. not (same_name chassis here) && list_any (λ q. is_on chassis (home_of c q)) qs) c.chassis

-- the packet crosses to each of them
abbrev pub cross_to_each : Name → SentFrom → Group → Packet → List Name → Trail → Trail
cross_to_each here from g p [] t = t
cross_to_each here from g p (home ∷ homes) t = cross_to_each here from g p homes (tell (crosses here (crossing_to from (ToGroup g) home p)) t)

-- the members here, but the port of entry
abbrev pub local_members : Scene → SwitchPort → List SwitchPort → List SwitchPort
local_members s i qs = filter (λ q. is_other i q && is_here s.here (home_of s.config q)) qs

-- a copy leaves by each of the ports in turn, and goes its whole way before the next begins
abbrev pub copy_to_each : (SwitchPort → Trail → Packet → Trail) → List SwitchPort → Trail → Packet → Trail
copy_to_each leave_by [] t p = t
copy_to_each leave_by (q ∷ qs) t p = copy_to_each leave_by qs (leave_by q t p) p

-- first the other chassis, then the members here, in order of name
abbrev pub spread : Onward → Scene → SentFrom → Group → List SwitchPort → Trail → Packet → Trail
spread onward s from g qs t p =
    copy_to_each (leave onward s (port_identity from.port)) (local_members s from.port qs) (cross_to_each s.here from g p (other_homes s.config s.here qs) t) p

-- ---- to any target

abbrev pub send_to : Target → Onward → Scene → SentFrom → Trail → Packet → Trail
send_to (answer_from mac ip) onward s from t p = leave onward s (port_identity from.port) from.port t (with_arp_reply mac ip p)
send_to (to_one o) onward s from t p = send_home (home_of s.config o) onward s from o t p
send_to (to_group g) onward s from t p = spread onward s from g (members s.config.net from.port.switch g) t p
send_to to_nobody onward s from t p = drop_for cause.UnknownAddress (spot_of from.port) t
