-- What is seen of a tuple, and the entry that its state names.
use Rattle.std.specs.Prelude.{◌≡◌, Bool, true, false, cond, Option, Some, None, is_some, refl}
use mathlib.Core.Path.{sym, ap, subst, ◌∙◌}
use Rattle.std.specs.Option.{option_map}
use Rattle.conn_table.specs.declared.connection.Entry.{Entry}
use Rattle.conn_table.specs.declared.connection.State.{State}
use Rattle.conn_table.specs.declared.connection.State.TheVariants as states
use Rattle.conn_table.specs.declared.tuple.Tuple.{Tuple}
use Rattle.conn_table.specs.Tuples.{is_echo_reply}
use Rattle.conn_table.specs.Connections.{ConnectionList, entry_of, answered, IsConnectionList}
use Rattle.conn_table.specs.Tracking.{forward, reply, invalid, new, seen_as_reply, seen_as_forward, seen_tuple, state_of, NamesEntry}
use Rattle.conn_table.proofs.TupleLaws.{at_among, among_at}
use Rattle.conn_table.proofs.IndexLaws.{answered_some}

-- no new state is one of an entry
forward_new : (e : Entry) → state_of (forward e) ≡ states.New → ⊥
forward_new e h = cc

reply_new : (e : Entry) → state_of (reply e) ≡ states.New → ⊥
reply_new e h = cc

-- a tuple that is new to the list is neither a forward tuple nor a reply tuple
pub new_free : (list : ConnectionList) (t : Tuple) → state_of (seen_tuple list (Some t)) ≡ states.New → (entry_of list t ≡ None) × (answered list t ≡ None)
new_free list t h = by_entry (entry_of list t) refl h
  where
    by_answer : (o : Option Entry) → answered list t ≡ o → state_of (seen_as_reply t o) ≡ states.New → answered list t ≡ None
    by_answer None is g = is
    by_answer (Some e) is g = absurd (reply_new e g)

    by_entry : (o : Option Entry) → entry_of list t ≡ o → state_of (seen_as_forward list t o) ≡ states.New → (entry_of list t ≡ None) × (answered list t ≡ None)
    by_entry None is g = (is, by_answer (answered list t) refl g)
    by_entry (Some e) is g = absurd (forward_new e g)

-- the state of a tuple names the entry that has it
pub names_entry : (list : ConnectionList) (t : Tuple) → IsConnectionList list → NamesEntry list (Some t) (state_of (seen_tuple list (Some t)))
names_entry list t law = by_entry (entry_of list t) refl
  where
    by_echo : (b : Bool) → NamesEntry list (Some t) (state_of (cond b invalid (new t)))
    by_echo true = tt
    by_echo false = tt

    by_answer : (o : Option Entry) → answered list t ≡ o → NamesEntry list (Some t) (state_of (seen_as_reply t o))
    by_answer None is = by_echo (is_echo_reply t.protocol)
    by_answer (Some e) is =
        let found = answered_some list t e is in
        let key : e.forward ≡ found.0 = (law.connections found.0 e found.1).at_forward in
        let held : entry_of list e.forward ≡ Some e = subst (λ u. entry_of list u ≡ Some e) (sym key) (among_at found.0 e list law.in_order found.1) in
        (ap (λ o. is_some o) held, ap (λ u. Some u) (sym found.2) ∙ ap (λ o. option_map (λ (x : Entry). x.reply) o) (sym held))

    by_entry : (o : Option Entry) → entry_of list t ≡ o → NamesEntry list (Some t) (state_of (seen_as_forward list t o))
    by_entry None is = by_answer (answered list t) refl
    by_entry (Some e) is =
        let key : e.forward ≡ t = (law.connections t e (at_among list t e is)).at_forward in
        let held : entry_of list e.forward ≡ Some e = subst (λ u. entry_of list u ≡ Some e) (sym key) is in
        (ap (λ o. is_some o) held, ap (λ u. Some u) (sym key) ∙ ap (λ o. option_map (λ (x : Entry). x.forward) o) (sym held))

-- a forward tuple is seen as one of its entry
pub seen_forward : (list : ConnectionList) (t : Tuple) → IsConnectionList list → is_some (entry_of list t) ≡ true → states.Forward (record { forward = t }) ≡ state_of (seen_tuple list (Some t))
seen_forward list t law some = by_entry (entry_of list t) refl some
  where
    by_entry : (o : Option Entry) → entry_of list t ≡ o → is_some o ≡ true → states.Forward (record { forward = t }) ≡ state_of (seen_as_forward list t o)
    by_entry None is g = cc
    by_entry (Some e) is g = ap (λ u. states.Forward (record { forward = u })) (sym (law.connections t e (at_among list t e is)).at_forward)

-- so does that of a tuple, or of none
pub names_of : (list : ConnectionList) (o : Option Tuple) (state : State) → IsConnectionList list → state ≡ state_of (seen_tuple list o) → NamesEntry list o state
names_of list o state law is = subst (λ s. NamesEntry list o s) (sym is) (by_option o)
  where
    by_option : (p : Option Tuple) → NamesEntry list p (state_of (seen_tuple list p))
    by_option None = tt
    by_option (Some t) = names_entry list t law
