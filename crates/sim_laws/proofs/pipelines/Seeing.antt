-- What is seen of a packet in a connection list names its entry and its tuple.
use Rattle.std.specs.Prelude.{◌≡◌, ◌<◌, ◌^◌, ◌&&◌, ◌==◌, ℕ, ⊤, Bool, true, false, cond, Option, Some, None, option_map, refl}
use Rattle.std.proofs.Common.{sym, ap, subst, arith}
use Rattle.std.proofs.lemmas.Option.{none-some, same_Some}
use Rattle.conn_table.proofs.IndexLaws.{answered_some}
use Rattle.conn_table.proofs.TupleLaws.{at_among, among_at}
use Rattle.conn_table.specs.Connections.{ConnectionList, entry_of, answered, IsConnectionList}
use Rattle.conn_table.specs.Tracking.{Seen, forward, reply, invalid, new, seen_as_reply, seen_as_forward, seen_tuple, seen}
use Rattle.conn_table.specs.Tuples.{tuple_of, body_tuple, ip4_tuple, echo_protocol, tuple_between, is_echo_reply, HasItsPorts}
use Rattle.conn_table.specs.declared.connection.Entry.{Entry}
use Rattle.conn_table.specs.declared.tuple.Protocol.{Protocol}
use Rattle.conn_table.specs.declared.tuple.Protocol.TheVariants as protocol
use Rattle.conn_table.specs.declared.tuple.Tuple.{Tuple}
use Rattle.inet_packet.specs.Whole.{IsWhole, IsWholeBody, IsPartWithin}
use Rattle.inet_packet.specs.declared.packet.Body.{Body}
use Rattle.inet_packet.specs.declared.packet.Body.TheVariants as body
use Rattle.inet_packet.specs.declared.packet.Ip4Packet.{Ip4Packet}
use Rattle.inet_packet.specs.declared.packet.Packet.{Packet}
use Rattle.inet_packet.specs.declared.packet.Part.{Part}
use Rattle.inet_packet.specs.declared.packet.Part.TheVariants as part
use Rattle.sim_laws.specs.pipelines.HeldLists.{IsTupleWithin}

-- the entry stands in the list, and the packet has its tuple
abbrev pub IsSeen : ConnectionList → Option Tuple → Seen → Type 0
IsSeen list o (forward e) = (entry_of list e.forward ≡ Some e) × (o ≡ Some e.forward)
IsSeen list o (reply e) = (entry_of list e.forward ≡ Some e) × (o ≡ Some e.reply)
IsSeen list o (new t) = (o ≡ Some t) × (is_echo_reply t.protocol ≡ false)
IsSeen list o invalid = ⊤

module _ (list : ConnectionList) (law : IsConnectionList list) (t : Tuple) where
  seen_new : (b : Bool) → is_echo_reply t.protocol ≡ b → IsSeen list (Some t) (cond b invalid (new t))
  seen_new true is = tt
  seen_new false is = (refl, is)

  seen_reply : (o : Option Entry) → answered list t ≡ o → IsSeen list (Some t) (seen_as_reply t o)
  seen_reply None is = seen_new (is_echo_reply t.protocol) refl
  seen_reply (Some e) is =
      let found = answered_some list t e is in
      let key : e.forward ≡ found.0 = (law.connections found.0 e found.1).at_forward in
      (subst (λ u. entry_of list u ≡ Some e) (sym key) (among_at found.0 e list law.in_order found.1), ap (λ u. Some u) (sym found.2))

  seen_forward : (o : Option Entry) → entry_of list t ≡ o → IsSeen list (Some t) (seen_as_forward list t o)
  seen_forward None is = seen_reply (answered list t) refl
  seen_forward (Some e) is =
      let key : e.forward ≡ t = (law.connections t e (at_among list t e is)).at_forward in
      (subst (λ u. entry_of list u ≡ Some e) (sym key) is, ap (λ u. Some u) (sym key))

pub is_seen : (list : ConnectionList) → IsConnectionList list → (p : Packet) → IsSeen list (tuple_of p) (seen list p)
is_seen list law p = by (tuple_of p)
  where
    by : (o : Option Tuple) → IsSeen list o (seen_tuple list o)
    by (Some t) = seen_forward list law t (entry_of list t) refl
    by None = tt

-- ---- the tuple of a packet

-- its ports are those of its protocol, and its numbers are in their ranges
pub record IsOfPacket (t : Tuple) : Type 0 where
  pub ports : HasItsPorts t.protocol t.src_port t.dst_port
  pub within : IsTupleWithin t

module _ (i : Ip4Packet) (src : i.src.0 < 2 ^ 32) (dst : i.dst.0 < 2 ^ 32) where
  between : (k : Protocol) (a b : ℕ) → HasItsPorts k a b → a < 2 ^ 16 → b < 2 ^ 16 → IsOfPacket (tuple_between k a b i)
  between k a b ports small also = record { ports = ports; within = record { src = src; src_port = small; dst = dst; dst_port = also } }

  echo : (ident kind code : ℕ) → ident < 2 ^ 16 → (t : Tuple) → option_map (λ k. tuple_between k ident ident i) (echo_protocol kind code) ≡ Some t → IsOfPacket t
  echo ident kind code small t = by (code == 0 && kind == 8) (code == 0 && kind == 0)
    where
      by : (b c : Bool) → option_map (λ k. tuple_between k ident ident i) (cond b (Some protocol.EchoRequest) (cond c (Some protocol.EchoReply) None)) ≡ Some t → IsOfPacket t
      by true c h = subst IsOfPacket (same_Some (tuple_between protocol.EchoRequest ident ident i) t h) (between protocol.EchoRequest ident ident refl small small)
      by false true h = subst IsOfPacket (same_Some (tuple_between protocol.EchoReply ident ident i) t h) (between protocol.EchoReply ident ident refl small small)
      by false false h = absurd (none-some t h)

  of_part : (x : Part) → IsPartWithin x → (t : Tuple) → ip4_tuple i x ≡ Some t → IsOfPacket t
  of_part (part.Tcp a b middle sum urgent) w t h = subst IsOfPacket (same_Some (tuple_between protocol.Tcp a b i) t h) (between protocol.Tcp a b tt w.0 w.1)
  of_part (part.Udp a b len sum) w t h = subst IsOfPacket (same_Some (tuple_between protocol.Udp a b i) t h) (between protocol.Udp a b tt w.0 w.1)
  of_part (part.Icmp kind code sum ident) w t h = echo ident kind code w.3 t h
  of_part part.OtherIp w t h = by (i.proto == 1) h
    where
      by : (b : Bool) → cond b None (Some (tuple_between (protocol.Other i.proto) 0 0 i)) ≡ Some t → IsOfPacket t
      by true h = absurd (none-some t h)
      by false h = subst IsOfPacket (same_Some (tuple_between (protocol.Other i.proto) 0 0 i) t h) (between (protocol.Other i.proto) 0 0 (refl, refl) (omega arith) (omega arith))
  of_part part.Fragment w t h = absurd (none-some t h)

pub tuple_is : (p : Packet) → IsWhole p → (t : Tuple) → tuple_of p ≡ Some t → IsOfPacket t
tuple_is p whole t h = by p.body whole.body h
  where
    by : (b : Body) → IsWholeBody b p.tail → body_tuple b ≡ Some t → IsOfPacket t
    by (body.Arp a) w h = absurd (none-some t h)
    by (body.Ip4 i) w h = of_part i w.within.src w.within.dst i.part w.within.part t h
    by (body.Other n) w h = absurd (none-some t h)
