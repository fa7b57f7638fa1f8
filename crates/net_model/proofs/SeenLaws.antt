-- What is seen as new can begin a connection, and with which tuples.
use Rattle.std.specs.Prelude.{◌≡◌, ◌≢◌, ℕ, ◌==◌, ◌&&◌, Bool, true, false, cond, Option, Some, None, refl}
use Rattle.std.specs.Option.{option_map}
use Rattle.std.proofs.Common.{sym, ap, ◌∙◌}
use Rattle.std.proofs.lemmas.Bool.{false≢true, true≢false}
use Rattle.conn_table.specs.Connections.{ConnectionList, entry_of, answered, IsPair}
use Rattle.conn_table.specs.Picks.{with_port}
use Rattle.conn_table.specs.Tracking.{Seen, forward, reply, invalid, new, seen_as_reply, seen_as_forward, seen_tuple, seen}
use Rattle.conn_table.specs.Tuples.{tuple_between, ip4_tuple, body_tuple, tuple_of, reversed_protocol, reversed, is_echo_reply, has_ports, HasItsPorts}
use Rattle.conn_table.specs.declared.connection.Entry.{Entry}
use Rattle.conn_table.specs.declared.tuple.Protocol.{Protocol}
use Rattle.conn_table.specs.declared.tuple.Protocol.TheVariants.{Tcp, Udp, EchoRequest, EchoReply, Other}
use Rattle.conn_table.specs.declared.tuple.Tuple.{Tuple}
use Rattle.inet_packet.specs.declared.packet.Body.{Body}
use Rattle.inet_packet.specs.declared.packet.Body.TheVariants as body
use Rattle.inet_packet.specs.declared.packet.Ip4Packet.{Ip4Packet}
use Rattle.inet_packet.specs.declared.packet.Packet.{Packet}
use Rattle.inet_packet.specs.declared.packet.Part.{Part}
use Rattle.inet_packet.specs.declared.packet.Part.TheVariants as part
use Rattle.ovn_base.specs.declared.address.Ip4.{Ip4}

-- ---- the ports of a packet's tuple

-- the tuple has the ports of its protocol, if there is one
abbrev HasPortsIf : Option Tuple → Type 0
HasPortsIf None = Unit {0}
HasPortsIf (Some t) = HasItsPorts t.protocol t.src_port t.dst_port

echo_ports : (a b : Bool) (ident : ℕ) (i : Ip4Packet) → HasPortsIf (option_map (λ q. tuple_between q ident ident i) (cond a (Some EchoRequest) (cond b (Some EchoReply) None)))
echo_ports true b ident i = refl
echo_ports false true ident i = refl
echo_ports false false ident i = tt

other_ports : (a : Bool) (n : ℕ) (i : Ip4Packet) → HasPortsIf (cond a None (Some (tuple_between (Other n) 0 0 i)))
other_ports true n i = tt
other_ports false n i = (refl, refl)

ip4_ports : (i : Ip4Packet) (x : Part) → HasPortsIf (ip4_tuple i x)
ip4_ports i (part.Tcp src_port dst_port middle sum urgent) = tt
ip4_ports i (part.Udp src_port dst_port len sum) = tt
ip4_ports i (part.Icmp kind code sum ident) = echo_ports (code == 0 && kind == 8) (code == 0 && kind == 0) ident i
ip4_ports i part.OtherIp = other_ports (i.proto == 1) i.proto i
ip4_ports i part.Fragment = tt

body_ports : (b : Body) → HasPortsIf (body_tuple b)
body_ports (body.Arp a) = tt
body_ports (body.Ip4 i) = ip4_ports i i.part
body_ports (body.Other t) = tt

-- ---- what is seen

-- a connection can begin with the tuple
pub record IsNewTuple (list : ConnectionList) (t : Tuple) : Type 0 where
  pub fresh : seen_tuple list (Some t) ≡ new t
  pub begins : t.protocol ≢ EchoReply
  pub ports : HasItsPorts t.protocol t.src_port t.dst_port

-- what was seen is so
abbrev pub Found : ConnectionList → Seen → Type 0
Found list (forward e) = Unit {0}
Found list (reply e) = Unit {0}
Found list invalid = Unit {0}
Found list (new t) = IsNewTuple list t

no_reply : (q : Protocol) → is_echo_reply q ≡ false → q ≢ EchoReply
no_reply q h e = true≢false (sym (ap is_echo_reply e) ∙ h)

found_tuple : (list : ConnectionList) (t : Tuple) → HasItsPorts t.protocol t.src_port t.dst_port → Found list (seen_tuple list (Some t))
found_tuple list t ports = by_entry (entry_of list t) refl
  where
    by_echo : (b : Bool) → is_echo_reply t.protocol ≡ b → seen_tuple list (Some t) ≡ cond b invalid (new t) → Found list (cond b invalid (new t))
    by_echo true is e = tt
    by_echo false is e = record { fresh = e; begins = no_reply t.protocol is; ports = ports }

    by_answer : (o : Option Entry) → answered list t ≡ o → seen_tuple list (Some t) ≡ seen_as_reply t o → Found list (seen_as_reply t o)
    by_answer None is e = by_echo (is_echo_reply t.protocol) refl e
    by_answer (Some x) is e = tt

    by_entry : (o : Option Entry) → entry_of list t ≡ o → Found list (seen_as_forward list t o)
    by_entry None is = by_answer (answered list t) refl (ap (seen_as_forward list t) is)
    by_entry (Some x) is = tt

found_if : (list : ConnectionList) (o : Option Tuple) → HasPortsIf o → Found list (seen_tuple list o)
found_if list None h = tt
found_if list (Some t) h = found_tuple list t h

pub found_seen : (list : ConnectionList) (p : Packet) → Found list (seen list p)
found_seen list p = found_if list (tuple_of p) (body_ports p.body)

-- ---- pairs of tuples

reversed_ports : (q : Protocol) (a b : ℕ) → HasItsPorts q a b → HasItsPorts (reversed_protocol q) b a
reversed_ports Tcp a b h = tt
reversed_ports Udp a b h = tt
reversed_ports EchoRequest a b h = sym h
reversed_ports EchoReply a b h = sym h
reversed_ports (Other n) a b h = (h.1, h.0)

-- the tuple with the reverse of the same between other addresses
pub addresses_pair : {list : ConnectionList} (t : Tuple) (src dst : Ip4) → IsNewTuple list t → IsPair t (reversed (record t { src = src; dst = dst }))
addresses_pair t src dst h = record { begins = h.begins; answers = refl; forward_ports = h.ports; reply_ports = reversed_ports t.protocol t.src_port t.dst_port h.ports }

-- with the reverse of the same to another server
pub server_pair : {list : ConnectionList} (t : Tuple) (dst : Ip4) (port : ℕ) → IsNewTuple list t → ((a b : ℕ) → HasItsPorts (reversed_protocol t.protocol) a b) → IsPair t (reversed (record t { dst = dst; dst_port = port }))
server_pair t dst port h free = record { begins = h.begins; answers = refl; forward_ports = h.ports; reply_ports = free port t.src_port }

-- with the reverse of the same from another address, to a port of it
port_pair_of : (q : Protocol) (src dst ip : Ip4) (a b n : ℕ) → q ≢ EchoReply → HasItsPorts q a b → has_ports (reversed_protocol q) ≡ true
    → IsPair (record { protocol = q; src = src; src_port = a; dst = dst; dst_port = b }) (with_port n (reversed (record { protocol = q; src = ip; src_port = a; dst = dst; dst_port = b })))
port_pair_of Tcp src dst ip a b n begins ports has = record { begins = begins; answers = refl; forward_ports = tt; reply_ports = tt }
port_pair_of Udp src dst ip a b n begins ports has = record { begins = begins; answers = refl; forward_ports = tt; reply_ports = tt }
port_pair_of EchoRequest src dst ip a b n begins ports has = record { begins = begins; answers = refl; forward_ports = ports; reply_ports = refl }
port_pair_of EchoReply src dst ip a b n begins ports has = absurd (begins refl)
port_pair_of (Other m) src dst ip a b n begins ports has = absurd (false≢true has)

pub port_pair : {list : ConnectionList} (t : Tuple) (ip : Ip4) (n : ℕ) → IsNewTuple list t → has_ports (reversed_protocol t.protocol) ≡ true → IsPair t (with_port n (reversed (record t { src = ip })))
port_pair t ip n h has = port_pair_of t.protocol t.src t.dst ip t.src_port t.dst_port n h.begins h.ports has
