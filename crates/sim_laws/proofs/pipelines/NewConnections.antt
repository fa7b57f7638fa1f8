-- A packet that begins a connection: the tuples of the entry can be committed, and the list stays good.
use Rattle.std.specs.Prelude.{◌≡◌, ◌≢◌, ℕ, true, false, Some, Ok, refl}
use Rattle.std.proofs.Common.{sym, ap, ◌∙◌, subst}
use Rattle.std.proofs.lemmas.Bool.{false≢true}
use Rattle.conn_table.specs.Connections.{ConnectionList, committed, IsPair}
use Rattle.conn_table.specs.Picks.{towards}
use Rattle.conn_table.specs.Tracking.{new, seen_tuple, seen}
use Rattle.conn_table.specs.Tuples.{tuple_of, reversed, reversed_protocol, is_echo_reply, HasItsPorts}
use Rattle.conn_table.specs.declared.connection.CommitFault.{CommitFault}
use Rattle.conn_table.specs.declared.connection.CommitFault.TheVariants as fault
use Rattle.conn_table.specs.declared.tuple.Protocol.{Protocol}
use Rattle.conn_table.specs.declared.tuple.Protocol.TheVariants as protocol
use Rattle.conn_table.specs.declared.tuple.Tuple.{Tuple}
use Rattle.inet_packet.specs.declared.packet.Packet.{Packet}
use Rattle.net_model.proofs.ConnectionLaws.{is_committed}
use Rattle.net_model.specs.Balancing.{commit_cause}
use Rattle.ovn_base.specs.declared.address.Backend.{Backend}
use Rattle.switch_engine.specs.Commits.{is_balanced}
use Rattle.switch_engine.specs.Commits.{commit_cause as engine_cause}
use Rattle.sim_laws.proofs.pipelines.GoodLists.{longer_good}
use Rattle.sim_laws.proofs.pipelines.Seeing.{IsOfPacket}
use Rattle.sim_laws.specs.pipelines.HeldLists.{IsTupleWithin, IsGoodList}

-- both name one cause
pub same_cause : (why : CommitFault) → engine_cause why ≡ commit_cause why
same_cause (fault.Clash t) = refl
same_cause fault.Full = refl
same_cause fault.Memory = refl

-- ---- the two tuples

not_echo_reply : (t : Tuple) → is_echo_reply t.protocol ≡ false → t.protocol ≢ protocol.EchoReply
not_echo_reply t plain same = false≢true (sym plain ∙ ap is_echo_reply same)

ports_swapped : (k : Protocol) (a b : ℕ) → HasItsPorts k a b → HasItsPorts (reversed_protocol k) b a
ports_swapped protocol.Tcp a b h = tt
ports_swapped protocol.Udp a b h = tt
ports_swapped protocol.EchoRequest a b h = sym h
ports_swapped protocol.EchoReply a b h = sym h
ports_swapped (protocol.Other n) a b h = (h.1, h.0)

-- answers come back as they are
pub pair_back : (t : Tuple) → IsOfPacket t → is_echo_reply t.protocol ≡ false → IsPair t (reversed t)
pair_back t of plain = record {
  begins = not_echo_reply t plain;
  answers = refl;
  forward_ports = of.ports;
  reply_ports = ports_swapped t.protocol t.src_port t.dst_port of.ports;
}

-- or from a backend
balanced_ports : (k : Protocol) (a b : ℕ) → is_balanced k ≡ true → HasItsPorts (reversed_protocol k) a b
balanced_ports protocol.Tcp a b h = tt
balanced_ports protocol.Udp a b h = tt
balanced_ports protocol.EchoRequest a b h = absurd (false≢true h)
balanced_ports protocol.EchoReply a b h = absurd (false≢true h)
balanced_ports (protocol.Other n) a b h = absurd (false≢true h)

pub pair_from : (t : Tuple) (b : Backend) → IsOfPacket t → is_echo_reply t.protocol ≡ false → is_balanced t.protocol ≡ true → IsPair t (reversed (towards b t))
pair_from t b of plain tcp = record {
  begins = not_echo_reply t plain;
  answers = refl;
  forward_ports = of.ports;
  reply_ports = balanced_ports t.protocol b.port t.src_port tcp;
}

-- ---- the list

pub committed_good : (list : ConnectionList) → IsGoodList list → (p : Packet) (t back : Tuple) (now : ℕ) → seen list p ≡ new t → tuple_of p ≡ Some t → IsPair t back → IsTupleWithin t → IsTupleWithin back
    → (after : ConnectionList) → committed list t back now ≡ Ok after → IsGoodList after
committed_good list good p t back now is has pair own other after e =
    let c = is_committed list t back now (sym (ap (seen_tuple list) has) ∙ is) pair after e in
    subst IsGoodList c.is (longer_good list good t back now c.can own other)
