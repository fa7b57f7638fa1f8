-- The tuples of a connection whose source is translated, with its own port or with one that is picked.
use Rattle.std.specs.Prelude.{◌≡◌, ◌≤◌, ◌&&◌, ℕ, nat_le, Bool, true, false, cond, refl}
use Rattle.std.proofs.Common.{sym, ◌∙◌, subst, arith, inl, inr}
use Rattle.std.proofs.lemmas.Bool.{false≢true, and_parts}
use Rattle.std.proofs.lemmas.Bool.Decides.{leb_tells}
use Rattle.conn_table.specs.Connections.{ConnectionList, IsPair}
use Rattle.conn_table.specs.Picks.{from_address, with_port_of, with_port, is_free_port, first_port, last_port, ports_to_pick, some_from, may_pick, has_free_port}
use Rattle.conn_table.specs.Tuples.{reversed, reversed_protocol, is_echo_reply, has_ports, HasItsPorts}
use Rattle.conn_table.specs.declared.tuple.Protocol.{Protocol}
use Rattle.conn_table.specs.declared.tuple.Protocol.TheVariants as protocol
use Rattle.conn_table.specs.declared.tuple.Tuple.{Tuple}
use Rattle.nb_records.specs.Grammar.{IsIp4}
use Rattle.ovn_base.specs.declared.address.Ip4.{Ip4}
use Rattle.sim_laws.proofs.pipelines.NewConnections.{pair_back}
use Rattle.sim_laws.proofs.pipelines.Seeing.{IsOfPacket}
use Rattle.sim_laws.specs.pipelines.HeldLists.{IsTupleWithin}

-- where there is a port to pick, the protocol has ports
pub ports_there : (list : ConnectionList) (back : Tuple) → has_free_port list back ≡ true → has_ports back.protocol ≡ true
ports_there list back = by (has_ports back.protocol)
  where
    by : (b : Bool) → cond b (some_from (is_free_port list back) first_port ports_to_pick) false ≡ true → b ≡ true
    by true h = refl
    by false h = absurd (false≢true h)

at_most : (a b : ℕ) → nat_le a b ≡ true → a ≤ b
at_most a b h = elim (leb_tells a b) [ inl e ↦ e.1 | inr e ↦ absurd (false≢true (sym e.0 ∙ h)) ]

-- one that may be picked is in its range
pub port_small : (list : ConnectionList) (back : Tuple) (n : ℕ) → may_pick list back n ≡ true → n ≤ 65535
port_small list back n h =
    let later = (and_parts (nat_le first_port n) (nat_le n last_port && is_free_port list back n) h).1 in
    at_most n last_port (and_parts (nat_le n last_port) (is_free_port list back n) later).0

module _ (t : Tuple) (of : IsOfPacket t) (plain : is_echo_reply t.protocol ≡ false) (ip : Ip4) where
  abbrev pub hidden : Tuple
  hidden = reversed (from_address ip t)

  -- the answers come back to the address
  pub hidden_pair : IsPair t hidden
  hidden_pair = let x = pair_back t of plain in record { begins = x.begins; answers = x.answers; forward_ports = x.forward_ports; reply_ports = x.reply_ports }

  pub hidden_within : IsIp4 ip → IsTupleWithin hidden
  hidden_within small = let w = of.within in record { src = w.dst; src_port = w.dst_port; dst = small; dst_port = w.src_port }

  -- and to the port that is picked
  same_protocol : (k : Protocol) (n : ℕ) (back : Tuple) → (with_port_of k n back).protocol ≡ back.protocol
  same_protocol protocol.Tcp n back = refl
  same_protocol protocol.Udp n back = refl
  same_protocol protocol.EchoRequest n back = refl
  same_protocol protocol.EchoReply n back = refl
  same_protocol (protocol.Other m) n back = refl

  its_ports : (k : Protocol) (n : ℕ) → is_echo_reply k ≡ false → has_ports (reversed_protocol k) ≡ true
      → HasItsPorts (reversed_protocol k) (with_port_of (reversed_protocol k) n hidden).src_port (with_port_of (reversed_protocol k) n hidden).dst_port
  its_ports protocol.Tcp n begins some = tt
  its_ports protocol.Udp n begins some = tt
  its_ports protocol.EchoRequest n begins some = refl
  its_ports protocol.EchoReply n begins some = absurd (false≢true (sym begins))
  its_ports (protocol.Other m) n begins some = absurd (false≢true some)

  pub picked_pair : (n : ℕ) → has_ports hidden.protocol ≡ true → IsPair t (with_port n hidden)
  picked_pair n some =
      let x = hidden_pair in
      let same = same_protocol hidden.protocol n hidden in
      record {
        begins = x.begins;
        answers = same ∙ x.answers;
        forward_ports = x.forward_ports;
        reply_ports = subst (λ (k : Protocol). HasItsPorts k (with_port n hidden).src_port (with_port n hidden).dst_port) (sym same) (its_ports t.protocol n plain some);
      }

  within_by : (k : Protocol) (n : ℕ) → n ≤ 65535 → IsTupleWithin hidden → IsTupleWithin (with_port_of k n hidden)
  within_by protocol.Tcp n few w = record { src = w.src; src_port = w.src_port; dst = w.dst; dst_port = omega (arith, few) }
  within_by protocol.Udp n few w = record { src = w.src; src_port = w.src_port; dst = w.dst; dst_port = omega (arith, few) }
  within_by protocol.EchoRequest n few w = record { src = w.src; src_port = w.src_port; dst = w.dst; dst_port = omega (arith, few) }
  within_by protocol.EchoReply n few w = record { src = w.src; src_port = omega (arith, few); dst = w.dst; dst_port = omega (arith, few) }
  within_by (protocol.Other m) n few w = record { src = w.src; src_port = w.src_port; dst = w.dst; dst_port = omega (arith, few) }

  pub picked_within : (n : ℕ) → n ≤ 65535 → IsIp4 ip → IsTupleWithin (with_port n hidden)
  picked_within n few small = within_by hidden.protocol n few (hidden_within small)
