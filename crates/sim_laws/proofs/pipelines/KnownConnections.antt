-- A packet of a connection that is known: its entry is changed, and it goes on, translated.
use Rattle.std.specs.Prelude.{◌≡◌, ℕ, Bool, true, false, cond, Option, Some, option_map, refl}
use Rattle.std.specs.BTreeMap.{is_at}
use Rattle.std.specs.Map.{set_value}
use Rattle.std.proofs.Common.{sym, ap, ◌∙◌}
use Rattle.std.proofs.lemmas.Bool.{cond-true}
use Rattle.conn_table.proofs.TupleLaws.{own_by_eq}
use Rattle.conn_table.specs.Connections.{ConnectionList, entry_of, changed_option, changed, touched, blocked_as}
use Rattle.conn_table.specs.Order.{same_tuple, tuple_cmp}
use Rattle.conn_table.specs.Tracking.{slot_of, with_option}
use Rattle.conn_table.specs.Tuples.{tuple_of, reversed, has_ports, with_addresses, with_tuple}
use Rattle.conn_table.specs.declared.connection.Entry.{Entry}
use Rattle.conn_table.specs.declared.connection.State.{State}
use Rattle.conn_table.specs.declared.connection.State.TheVariants as states
use Rattle.conn_table.specs.declared.tuple.Tuple.{Tuple}
use Rattle.inet_packet.proofs.RewriteSteps.{whole_with, src_steps, dst_steps, ports_steps}
use Rattle.inet_packet.specs.Rewrites.{with_ip4, ip4_with_src, ip4_with_dst, ip4_with_ports}
use Rattle.inet_packet.specs.Whole.{IsWhole}
use Rattle.inet_packet.specs.declared.packet.Packet.{Packet}
use Rattle.net_model.specs.Tracking.{translated_onward, translated_back}
use Rattle.switch_engine.specs.Tracking.{is_of, translated_by}
use Rattle.sim_laws.proofs.pipelines.GoodLists.{LeavesTuples, changed_found}
use Rattle.sim_laws.proofs.pipelines.SetValues.{set_twice}
use Rattle.sim_laws.specs.pipelines.HeldLists.{IsTupleWithin, IsGoodList}

-- ---- changes of its entry

pub touches : (now : ℕ) → LeavesTuples (touched now)
touches now = record { forward = λ e. refl; reply = λ e. refl }

pub blocks : (b : Bool) → LeavesTuples (blocked_as b)
blocks b = record { forward = λ e. refl; reply = λ e. refl }

-- one change and then another
pub changed_twice : (f g : Entry → Entry) → LeavesTuples f → (list : ConnectionList) → IsGoodList list → (t : Tuple) (e : Entry) → entry_of list t ≡ Some e → changed g t (changed f t list) ≡ changed (λ x. g (f x)) t list
changed_twice f g leaves list good t e is =
    ap (λ (l : ConnectionList). changed g t l) first
    ∙ ap (λ (o : Option Entry). changed_option g t (set_value (is_at (tuple_cmp t)) list (f e)) o) (sym (ap (λ (l : ConnectionList). entry_of l t) first) ∙ changed_found f leaves list good t e is)
    ∙ set_twice (is_at (tuple_cmp t)) list (f e) (g (f e))
    ∙ sym (ap (λ (o : Option Entry). changed_option (λ x. g (f x)) t list o) is)
  where
    first : changed f t list ≡ set_value (is_at (tuple_cmp t)) list (f e)
    first = ap (λ (o : Option Entry). changed_option f t list o) is

-- ---- translation

-- the packet of a tuple whose numbers are in their ranges is whole
pub whole_tuple : (t : Tuple) (p : Packet) → IsTupleWithin t → IsWhole p → IsWhole (with_tuple t p)
whole_tuple t p w whole = by (has_ports t.protocol)
  where
    addressed : IsWhole (with_addresses t p)
    addressed =
        let first = whole_with (ip4_with_src t.src) p whole (src_steps t.src p w.src whole) in
        whole_with (ip4_with_dst t.dst) (with_ip4 (ip4_with_src t.src) p) first (dst_steps t.dst (with_ip4 (ip4_with_src t.src) p) w.dst first)

    by : (b : Bool) → IsWhole (cond b (with_ip4 (ip4_with_ports t.src_port t.dst_port) (with_addresses t p)) (with_addresses t p))
    by true = whole_with (ip4_with_ports t.src_port t.dst_port) (with_addresses t p) addressed (ports_steps t.src_port t.dst_port (with_addresses t p) w.src_port w.dst_port addressed)
    by false = addressed

pub reversed_within : (t : Tuple) → IsTupleWithin t → IsTupleWithin (reversed t)
reversed_within t w = record { src = w.dst; src_port = w.dst_port; dst = w.src; dst_port = w.src_port }

-- the entry that the list holds under the forward tuple has the tuples of this one
pub record IsEntryOf (list : ConnectionList) (e : Entry) : Type 0 where
  pub there : Entry
  pub is : entry_of list e.forward ≡ Some there
  pub forward : there.forward ≡ e.forward
  pub reply : there.reply ≡ e.reply

module _ (list : ConnectionList) (e : Entry) (o : IsEntryOf list e) (p : Packet) where
  becomes : (state : State) (own to : Tuple) → tuple_of p ≡ Some own → (before after : Option Tuple) → before ≡ Some own → after ≡ Some to
      → cond (is_of (tuple_of p) before) (with_option after p) p ≡ with_tuple to p
  becomes state own to has before after was goes =
      ap (λ (x : Option Tuple). cond (is_of x before) (with_option after p) p) has
      ∙ ap (λ (x : Option Tuple). cond (is_of (Some own) x) (with_option after p) p) was
      ∙ cond-true (same_tuple own own) (with_option after p) p (own_by_eq own)
      ∙ ap (λ (x : Option Tuple). with_option x p) goes

  -- a packet as the connection goes on, and an answer to it
  pub goes_onward : tuple_of p ≡ Some e.forward → translated_by list (states.Forward (slot_of e)) p ≡ translated_onward e p
  goes_onward has =
      becomes (states.Forward (slot_of e)) e.forward (reversed e.reply) has (option_map (λ (x : Entry). x.forward) (entry_of list e.forward)) (option_map (λ (x : Entry). reversed x.reply) (entry_of list e.forward))
      (ap (option_map (λ (x : Entry). x.forward)) o.is ∙ ap (λ (t : Tuple). Some t) o.forward)
      (ap (option_map (λ (x : Entry). reversed x.reply)) o.is ∙ ap (λ (t : Tuple). Some (reversed t)) o.reply)

  pub goes_back : tuple_of p ≡ Some e.reply → translated_by list (states.Reply (slot_of e)) p ≡ translated_back e p
  goes_back has =
      becomes (states.Reply (slot_of e)) e.reply (reversed e.forward) has (option_map (λ (x : Entry). x.reply) (entry_of list e.forward)) (option_map (λ (x : Entry). reversed x.forward) (entry_of list e.forward))
      (ap (option_map (λ (x : Entry). x.reply)) o.is ∙ ap (λ (t : Tuple). Some t) o.reply)
      (ap (option_map (λ (x : Entry). reversed x.forward)) o.is ∙ ap (λ (t : Tuple). Some (reversed t)) o.forward)
