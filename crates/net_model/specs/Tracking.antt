-- Connections of a switch's ports.
use Rattle.std.specs.Prelude.{◌&&◌, ◌||◌, ℕ, Bool, true, false, not, Option, Some, None, cond}
use Rattle.conn_table.specs.Connections.{changed, touched, blocked_as}
use Rattle.conn_table.specs.Tracking.{Seen, forward, reply, invalid, new, seen}
use Rattle.conn_table.specs.Tuples.{reversed, with_tuple}
use Rattle.conn_table.specs.declared.connection.Entry.{Entry}
use Rattle.conn_table.specs.declared.tuple.Tuple.{Tuple}
use Rattle.flow_table.specs.declared.flow.Cause.{Cause}
use Rattle.flow_table.specs.declared.flow.Cause.TheVariants as cause
use Rattle.inet_packet.specs.declared.packet.Packet.{Packet}
use Rattle.match_language.specs.declared.field.Direction.{Direction}
use Rattle.match_language.specs.declared.field.Direction.TheVariants.{FromLport, ToLport}
use Rattle.nb_records.specs.Network.{Network}
use Rattle.nb_records.specs.Switches.{is_virtual, is_stateful, has_balancer}
use Rattle.nb_records.specs.declared.switch.SwitchPort.{SwitchPort}
use Rattle.ovn_base.specs.addresses.EtherAddress.{is_multicast_mac}
use Rattle.net_model.specs.Balancing.{Desk, commit_or_drop, Service, service_for, balance}
use Rattle.net_model.specs.Headers.{carries_ip4}
use Rattle.net_model.specs.Trail.{Trail, ListOwner, of_port, list_of, write_list, spot_of, drop_for, Point, goes, stops, unless}
use Rattle.net_model.specs.Verdict.{Verdict, allow_stateless, reject, deny}

-- ---- a connection that is known

-- its entry is changed so
abbrev pub refresh : ListOwner → (Entry → Entry) → Entry → Trail → Trail
refresh owner change e t = write_list owner (changed change e.forward (list_of t.lists owner)) t

-- a packet of the connection as it goes on, and an answer to it: the tuple becomes the reverse of the entry's other tuple
abbrev pub translated_onward : Entry → Packet → Packet
translated_onward e p = with_tuple (reversed e.reply) p

abbrev pub translated_back : Entry → Packet → Packet
translated_back e p = with_tuple (reversed e.forward) p

-- it is used now, and the packet goes on, translated
abbrev pub carry_onward : ℕ → ListOwner → Entry → Trail → Packet → Point
carry_onward now owner e t p = goes (refresh owner (touched now) e t) (translated_onward e p)

abbrev pub carry_back : ℕ → ListOwner → Entry → Trail → Packet → Point
carry_back now owner e t p = goes (refresh owner (touched now) e t) (translated_back e p)

-- ---- which packets are tracked

-- a packet passes a switch port, into the switch or out of it, under the verdict of the rules
pub record Passage : Type 0 where
  pub net : Network
  pub now : ℕ
  pub way : Direction
  pub port : SwitchPort
  pub verdict : Verdict

abbrev pub desk_of : Passage → Desk
desk_of g = record { now = g.now; spot = spot_of g.port; owner = of_port g.port.name }

-- packets are tracked at virtual ports: unicast IPv4, where the switch is stateful or has a balancer
abbrev pub is_tracked : Network → SwitchPort → Packet → Bool
is_tracked net q p = is_virtual q && (carries_ip4 p && (not (is_multicast_mac p.dst) && (is_stateful net q.switch || has_balancer net q.switch)))

abbrev pub denial : Verdict → Option Cause
denial deny = Some cause.Acl
denial reject = Some cause.Reject
denial _ = None

-- ---- a packet that is tracked

-- it begins a connection; one that enters may be for a virtual address
abbrev pub begin_to : Passage → Tuple → Option Service → Trail → Packet → Point
begin_to g tuple (Some s) t p = balance g.net (desk_of g) tuple s t p
begin_to g tuple None t p = commit_or_drop (desk_of g) tuple (reversed tuple) t p

abbrev pub begin : Direction → Passage → Tuple → Trail → Packet → Point
begin FromLport g tuple t p = begin_to g tuple (service_for g.net g.port.switch tuple) t p
begin ToLport g tuple t p = begin_to g tuple None t p

abbrev pub take_new : Option Cause → Passage → Tuple → Trail → Packet → Point
take_new (Some why) g tuple t p = stops (drop_for why (spot_of g.port) t)
take_new None g tuple t p = begin g.way g tuple t p

-- it is one of a connection: it blocks that where the verdict denies it, and else unblocks it
abbrev pub take_forward : Option Cause → Passage → Entry → Trail → Packet → Point
take_forward (Some why) g e t p = stops (drop_for why (spot_of g.port) (refresh (of_port g.port.name) (blocked_as true) e t))
take_forward None g e t p = goes (refresh (of_port g.port.name) (λ old. touched g.now (blocked_as false old)) e t) (translated_onward e p)

-- it is an answer, and passes whatever the verdict, unless the connection is blocked
abbrev pub take_reply : Bool → Passage → Entry → Trail → Packet → Point
take_reply true g e t p = stops (drop_for cause.Blocked (spot_of g.port) t)
take_reply false g e t p = carry_back g.now (of_port g.port.name) e t p

-- it is none of these: a stateful switch drops it, any other goes by the verdict
abbrev pub invalid_denial : Passage → Option Cause
invalid_denial g = cond (is_stateful g.net g.port.switch) (Some cause.Invalid) (denial g.verdict)

abbrev pub take : Passage → Seen → Trail → Packet → Point
take g invalid t p = unless (invalid_denial g) (spot_of g.port) t p
take g (reply e) t p = take_reply e.blocked g e t p
take g (forward e) t p = take_forward (denial g.verdict) g e t p
take g (new tuple) t p = take_new (denial g.verdict) g tuple t p

-- ---- any packet

abbrev pub is_stateless : Verdict → Bool
is_stateless allow_stateless = true
is_stateless _ = false

-- what a rule allows without state passes untracked, and untranslated
abbrev pub track_unless : Bool → Passage → Trail → Packet → Point
track_unless true g t p = goes t p
track_unless false g t p = take g (seen (list_of t.lists (of_port g.port.name)) p) t p

abbrev pub pass_if : Bool → Passage → Trail → Packet → Point
pass_if true g t p = track_unless (is_stateless g.verdict) g t p
pass_if false g t p = unless (denial g.verdict) (spot_of g.port) t p

-- a packet that is not tracked goes by the verdict alone
abbrev pub pass : Passage → Trail → Packet → Point
pass g t p = pass_if (is_tracked g.net g.port p) g t p
