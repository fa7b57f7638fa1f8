-- A packet leaves a switch by a port.
use Rattle.std.specs.Prelude.{not, [], ◌∷◌, Option, Some}
use Rattle.flow_table.specs.declared.flow.Cause.{Cause}
use Rattle.flow_table.specs.declared.flow.Cause.TheVariants as cause
use Rattle.inet_packet.specs.declared.packet.Packet.{Packet}
use Rattle.match_language.specs.declared.field.Direction.TheVariants.{ToLport}
use Rattle.nb_records.specs.Network.{Network}
use Rattle.nb_records.specs.Routers.{partner_of_switch_port}
use Rattle.nb_records.specs.declared.switch.PortKind.{PortKind}
use Rattle.nb_records.specs.declared.switch.PortKind.TheVariants as port_kind
use Rattle.nb_records.specs.declared.switch.SwitchPort.{SwitchPort}
use Rattle.tunnel_keys.specs.declared.owner.Identity.{Identity}
use Rattle.net_model.specs.Config.{port_identity}
use Rattle.net_model.specs.Entry.{Scene, Onward}
use Rattle.net_model.specs.PortSecurity.{may_leave}
use Rattle.net_model.specs.Sights.{Sight}
use Rattle.net_model.specs.Tracking.{Passage, pass}
use Rattle.net_model.specs.Trail.{Trail, leaves, tell, spot_of, Point, then, finally, unless, first_cause}
use Rattle.net_model.specs.Verdict.{verdict_of}

-- first the port
abbrev pub exit_denial : SwitchPort → Option Cause
exit_denial o = first_cause ((not o.enabled, cause.Disabled) ∷ [])

-- then the rules and the connections; a rule may ask by which port the packet came into the switch
abbrev pub sight_out : Identity → SwitchPort → Packet → Sight
sight_out came o p = record { packet = p; in_port = came; out_port = Some (port_identity o) }

abbrev pub passage_out : Scene → Identity → SwitchPort → Packet → Passage
passage_out s came o p = record { net = s.config.net; now = s.now; way = ToLport; port = o; verdict = verdict_of s.config.net o.switch ToLport (sight_out came o p) }

-- then port security, of the packet as it is translated
abbrev pub security_out : SwitchPort → Packet → Option Cause
security_out o p = first_cause ((not (may_leave o p), cause.PortSecurity) ∷ [])

abbrev pub secure_out : SwitchPort → Trail → Packet → Point
secure_out o t p = unless (security_out o p) (spot_of o) t p

abbrev pub judge_out : Scene → Identity → SwitchPort → Trail → Packet → Point
judge_out s came o t p = then (pass (passage_out s came o p) t p) (secure_out o)

abbrev pub exit : Scene → Identity → SwitchPort → Trail → Packet → Point
exit s came o t p = then (unless (exit_denial o) (spot_of o) t p) (judge_out s came o)

-- a virtual port gives the packet out, a port to a router passes it on
abbrev pub give_out : Onward → Network → SwitchPort → PortKind → Trail → Packet → Trail
give_out onward net o port_kind.Virtual t p = tell (leaves o.name p) t
give_out onward net o port_kind.Router t p = onward (spot_of o) (partner_of_switch_port net o) t p

abbrev pub leave : Onward → Scene → Identity → SwitchPort → Trail → Packet → Trail
leave onward s came o t p = finally (exit s came o t p) (give_out onward s.config.net o o.kind)
