-- What a router does first with a packet that enters at a port.
use Rattle.std.specs.Prelude.{◌&&◌, ◌||◌, not, nat_le, Bool, true, false, [], ◌∷◌, Option, Some, None}
use Rattle.conn_table.specs.Tuples.{tuple_of}
use Rattle.conn_table.specs.declared.tuple.Protocol.{Protocol}
use Rattle.conn_table.specs.declared.tuple.Protocol.TheVariants as protocol
use Rattle.conn_table.specs.declared.tuple.Tuple.{Tuple}
use Rattle.flow_table.specs.declared.flow.Cause.{Cause}
use Rattle.flow_table.specs.declared.flow.Cause.TheVariants as cause
use Rattle.inet_packet.specs.Fields as field
use Rattle.inet_packet.specs.Rewrites.{with_ip4, ip4_as_reply, with_arp_reply}
use Rattle.inet_packet.specs.declared.packet.Packet.{Packet}
use Rattle.nb_records.specs.Network.{Network}
use Rattle.nb_records.specs.Routers.{answers, is_own_ip}
use Rattle.nb_records.specs.Switches.{same_mac}
use Rattle.nb_records.specs.declared.router.RouterPort.{RouterPort}
use Rattle.ovn_base.specs.addresses.EtherAddress.{is_multicast_mac}
use Rattle.ovn_base.specs.declared.address.Ip4.{Ip4}
use Rattle.net_model.specs.Headers.{carries_ip4, carries_arp, ip_of, src_of, dst_of, asked_ip, is_bad_ip}
use Rattle.net_model.specs.Trail.{first_that}

pub data Intake : Type 0 where
  -- this answer leaves by the port of entry
  answers_with : Packet → Intake
  -- it became the router's own answer, which is only routed
  becomes : Packet → Intake
  passes_on : Intake
  refuses : Cause → Intake

-- the packet has the port's Ethernet address, or is an ARP packet for a group
abbrev pub is_for_port : RouterPort → Packet → Bool
is_for_port i p = same_mac i.mac p.dst || (is_multicast_mac p.dst && carries_arp p)

abbrev pub answers_asked : Network → RouterPort → Option Ip4 → Bool
answers_asked net i None = false
answers_asked net i (Some ip) = answers net i ip

abbrev pub arp_answer : RouterPort → Packet → Packet
arp_answer i p = with_arp_reply i.mac (ip_of (field.arp_tpa p.body)) p

abbrev pub is_echo : Protocol → Bool
is_echo protocol.EchoRequest = true
is_echo _ = false

abbrev pub is_echo_request : Option Tuple → Bool
is_echo_request (Some t) = is_echo t.protocol
is_echo_request None = false

-- the first that holds
abbrev pub intake : Network → RouterPort → Packet → Intake
intake net i p = first_that (
    (not (is_for_port i p), refuses cause.NotForRouter)
    ∷ (answers_asked net i (asked_ip p), answers_with (arp_answer i p))
    ∷ (carries_arp p, refuses cause.Arp)
    ∷ (carries_ip4 p && (is_bad_ip (src_of p) || is_bad_ip (dst_of p)), refuses cause.BadIp)
    ∷ (is_echo_request (tuple_of p) && is_own_ip net i.router (dst_of p), becomes (with_ip4 ip4_as_reply p))
    ∷ (carries_ip4 p && nat_le (field.ip_ttl p.body) 1, refuses cause.Ttl)
    ∷ (not (carries_ip4 p), refuses cause.NotIp4)
    ∷ []) passes_on
