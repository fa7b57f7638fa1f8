-- The tuple of a packet, its reverse, and the packet of another tuple.
use Rattle.std.specs.Prelude.{◌≡◌, ℕ, Bool, true, false, ◌&&◌, ◌==◌, cond, Option, Some, None}
use Rattle.std.specs.Option.{option_map}
use Rattle.inet_packet.specs.declared.packet.Body.{Body}
use Rattle.inet_packet.specs.declared.packet.Body.TheVariants as body
use Rattle.inet_packet.specs.declared.packet.Ip4Packet.{Ip4Packet}
use Rattle.inet_packet.specs.declared.packet.Packet.{Packet}
use Rattle.inet_packet.specs.declared.packet.Part.{Part}
use Rattle.inet_packet.specs.declared.packet.Part.TheVariants as part
use Rattle.inet_packet.specs.Rewrites.{ip4_with_src, ip4_with_dst, ip4_with_ports, with_ip4}
use Rattle.conn_table.specs.declared.tuple.Protocol.{Protocol}
use Rattle.conn_table.specs.declared.tuple.Protocol.TheVariants.{Tcp, Udp, EchoRequest, EchoReply, Other}
use Rattle.conn_table.specs.declared.tuple.Tuple.{Tuple}

-- ---- the tuple of a packet

abbrev pub tuple_between : Protocol → ℕ → ℕ → Ip4Packet → Tuple
tuple_between protocol src_port dst_port i = record { protocol = protocol; src = i.src; src_port = src_port; dst = i.dst; dst_port = dst_port }

-- an echo request is ICMP of type 8, an echo reply of type 0, both of code 0; no other ICMP is an echo
abbrev pub echo_protocol : ℕ → ℕ → Option Protocol
echo_protocol kind code = cond (code == 0 && kind == 8) (Some EchoRequest) (cond (code == 0 && kind == 0) (Some EchoReply) None)

-- a header that is cut counts as another protocol, but cut ICMP has no tuple; nor has a fragment
abbrev pub ip4_tuple : Ip4Packet → Part → Option Tuple
ip4_tuple i (part.Tcp src_port dst_port middle sum urgent) = Some (tuple_between Tcp src_port dst_port i)
ip4_tuple i (part.Udp src_port dst_port len sum) = Some (tuple_between Udp src_port dst_port i)
ip4_tuple i (part.Icmp kind code sum ident) = option_map (λ protocol. tuple_between protocol ident ident i) (echo_protocol kind code)
ip4_tuple i part.OtherIp = cond (i.proto == 1) None (Some (tuple_between (Other i.proto) 0 0 i))
ip4_tuple i part.Fragment = None

abbrev pub body_tuple : Body → Option Tuple
body_tuple (body.Arp a) = None
body_tuple (body.Ip4 i) = ip4_tuple i i.part
body_tuple (body.Other t) = None

-- the tuple of the packet, if it has one
abbrev pub tuple_of : Packet → Option Tuple
tuple_of p = body_tuple p.body

-- ---- the other way round

abbrev pub reversed_protocol : Protocol → Protocol
reversed_protocol EchoRequest = EchoReply
reversed_protocol EchoReply = EchoRequest
reversed_protocol Tcp = Tcp
reversed_protocol Udp = Udp
reversed_protocol (Other n) = Other n

abbrev pub reversed : Tuple → Tuple
reversed t = record { protocol = reversed_protocol t.protocol; src = t.dst; src_port = t.dst_port; dst = t.src; dst_port = t.src_port }

-- ---- kinds of protocols

abbrev pub is_echo_reply : Protocol → Bool
is_echo_reply EchoReply = true
is_echo_reply _ = false

-- its packets have ports, or an identifier
abbrev pub has_ports : Protocol → Bool
has_ports (Other n) = false
has_ports _ = true

-- the two ports of an echo are equal, and those of another protocol are 0
abbrev pub HasItsPorts : Protocol → ℕ → ℕ → Type 0
HasItsPorts Tcp src dst = Unit {0}
HasItsPorts Udp src dst = Unit {0}
HasItsPorts EchoRequest src dst = src ≡ dst
HasItsPorts EchoReply src dst = src ≡ dst
HasItsPorts (Other n) src dst = (src ≡ 0) × (dst ≡ 0)

-- ---- the packet of another tuple

-- the packet with the addresses of the tuple
abbrev pub with_addresses : Tuple → Packet → Packet
with_addresses t p = with_ip4 (ip4_with_dst t.dst) (with_ip4 (ip4_with_src t.src) p)

-- and with its ports, if it has any
abbrev pub with_tuple : Tuple → Packet → Packet
with_tuple t p = cond (has_ports t.protocol) (with_ip4 (ip4_with_ports t.src_port t.dst_port) (with_addresses t p)) (with_addresses t p)

-- the packet can become one of the tuple: it is of the same protocol
pub record CanBecome (t : Tuple) (p : Packet) : Type 0 where
  pub from : Tuple
  pub is : tuple_of p ≡ Some from
  pub same : from.protocol ≡ t.protocol
  pub ports : HasItsPorts t.protocol t.src_port t.dst_port
