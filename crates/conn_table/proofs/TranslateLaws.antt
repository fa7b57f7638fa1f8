-- Packets of a connection can become packets of the reverse of its other tuple.
use Rattle.std.specs.Prelude.{◌≡◌, ℕ, Some, refl}
use mathlib.Core.Path.{sym, ap, ◌∙◌}
use Rattle.inet_packet.specs.declared.packet.Packet.{Packet}
use Rattle.conn_table.specs.declared.connection.Entry.{Entry}
use Rattle.conn_table.specs.declared.tuple.Protocol.{Protocol}
use Rattle.conn_table.specs.declared.tuple.Protocol.TheVariants.{Tcp, Udp, EchoRequest, EchoReply, Other}
use Rattle.conn_table.specs.Tuples.{tuple_of, reversed_protocol, reversed, HasItsPorts, CanBecome}
use Rattle.conn_table.specs.Connections.{IsPair}

-- the other way round twice
reversed_twice : (p : Protocol) → reversed_protocol (reversed_protocol p) ≡ p
reversed_twice Tcp = refl
reversed_twice Udp = refl
reversed_twice EchoRequest = refl
reversed_twice EchoReply = refl
reversed_twice (Other n) = refl

-- ports stay right as they are swapped
ports_swapped : (p : Protocol) (a b : ℕ) → HasItsPorts p a b → HasItsPorts (reversed_protocol p) b a
ports_swapped Tcp a b h = tt
ports_swapped Udp a b h = tt
ports_swapped EchoRequest a b h = sym h
ports_swapped EchoReply a b h = sym h
ports_swapped (Other n) a b h = (h.1, h.0)

pub becomes_forward : (p : Packet) (e : Entry) → IsPair e.forward e.reply → tuple_of p ≡ Some e.forward → CanBecome (reversed e.reply) p
becomes_forward p e pair is = record {
  from = e.forward;
  is = is;
  same = sym (reversed_twice e.forward.protocol) ∙ ap (λ q. reversed_protocol q) (sym pair.answers);
  ports = ports_swapped e.reply.protocol e.reply.src_port e.reply.dst_port pair.reply_ports;
}

pub becomes_reply : (p : Packet) (e : Entry) → IsPair e.forward e.reply → tuple_of p ≡ Some e.reply → CanBecome (reversed e.forward) p
becomes_reply p e pair is = record {
  from = e.reply;
  is = is;
  same = pair.answers;
  ports = ports_swapped e.forward.protocol e.forward.src_port e.forward.dst_port pair.forward_ports;
}
