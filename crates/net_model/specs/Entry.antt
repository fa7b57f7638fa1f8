-- A packet enters a switch at a port.
use Rattle.std.specs.Prelude.{not, ℕ, [], ◌∷◌, Option, None}
use Rattle.flow_table.specs.declared.flow.Cause.{Cause}
use Rattle.flow_table.specs.declared.flow.Cause.TheVariants as cause
use Rattle.inet_packet.specs.declared.packet.Packet.{Packet}
use Rattle.match_language.specs.declared.field.Direction.TheVariants.{FromLport}
use Rattle.nb_records.specs.Routers.{Partner}
use Rattle.nb_records.specs.declared.switch.SwitchPort.{SwitchPort}
use Rattle.ovn_base.specs.addresses.EtherAddress.{is_multicast_mac}
use Rattle.ovn_base.specs.declared.name.Name.{Name}
use Rattle.net_model.specs.Config.{Config, port_identity}
use Rattle.net_model.specs.Headers.{is_tagged}
use Rattle.net_model.specs.PortSecurity.{may_enter}
use Rattle.net_model.specs.Sights.{Sight}
use Rattle.net_model.specs.Tracking.{Passage, pass}
use Rattle.net_model.specs.Trail.{Trail, Spot, spot_of, Point, then, unless, first_cause}
use Rattle.net_model.specs.Verdict.{verdict_of}

-- the configuration by which a packet goes, the time in seconds, and the chassis on which it is
pub record Scene : Type 0 where
  pub config : Config
  pub now : ℕ
  pub here : Name

-- how a packet goes on that leaves a datapath by a port: to the partner of the port, if it has one
abbrev pub Onward : Type 0
Onward = Spot → Option Partner → Trail → Packet → Trail

-- first the port and the Ethernet header
abbrev pub admission : SwitchPort → Packet → Option Cause
admission i p = first_cause (
    (not i.enabled, cause.Disabled)
    ∷ (is_multicast_mac p.src, cause.BadSource)
    ∷ (is_tagged p, cause.Vlan)
    ∷ [])

-- then port security
abbrev pub security_in : SwitchPort → Packet → Option Cause
security_in i p = first_cause ((not (may_enter i p), cause.PortSecurity) ∷ [])

-- then the rules, which see no port of exit yet, and the connections
abbrev pub sight_in : SwitchPort → Packet → Sight
sight_in i p = record { packet = p; in_port = port_identity i; out_port = None }

abbrev pub passage_in : Scene → SwitchPort → Packet → Passage
passage_in s i p = record { net = s.config.net; now = s.now; way = FromLport; port = i; verdict = verdict_of s.config.net i.switch FromLport (sight_in i p) }

abbrev pub judge_in : Scene → SwitchPort → Trail → Packet → Point
judge_in s i t p = pass (passage_in s i p) t p

abbrev pub secure_in : Scene → SwitchPort → Trail → Packet → Point
secure_in s i t p = then (unless (security_in i p) (spot_of i) t p) (judge_in s i)

abbrev pub enter : Scene → SwitchPort → Trail → Packet → Point
enter s i t p = then (unless (admission i p) (spot_of i) t p) (secure_in s i)
