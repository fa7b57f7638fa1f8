-- Two tuples that a commit takes.
use Rattle.std.specs.Prelude.{◌≡◌, true, ◌&&◌, nat_lt, length, Option, Some, None, is_none, refl}
use Rattle.std.proofs.lemmas.Bool.{false≢true, ltb-true}
use Rattle.conn_table.specs.declared.connection.Entry.{Entry}
use Rattle.conn_table.specs.declared.connection.State.TheVariants.{New}
use Rattle.ovn_base.specs.declared.limits.TheConstants.{MAX_CONNECTIONS}
use Rattle.conn_table.specs.declared.tuple.Tuple.{Tuple}
use Rattle.conn_table.specs.Connections.{ConnectionList, entry_of, answered, is_free, IsPair, CanCommit}
use Rattle.conn_table.specs.Tracking.{seen_tuple, state_of}
use Rattle.conn_table.proofs.FindLaws.{new_free}

-- a free tuple is no entry's
free_both : (list : ConnectionList) (t : Tuple) → is_free list t ≡ true → (entry_of list t ≡ None) × (answered list t ≡ None)
free_both list t h = by (entry_of list t) (answered list t) refl refl h
  where
    by : (e a : Option Entry) → entry_of list t ≡ e → answered list t ≡ a → (is_none e && is_none a) ≡ true → (entry_of list t ≡ None) × (answered list t ≡ None)
    by None None is was g = (is, was)
    by None (Some a) is was g = absurd (false≢true g)
    by (Some e) a is was g = absurd (false≢true g)

-- the two tuples can be committed
pub can_commit : (list : ConnectionList) (from back : Tuple) → state_of (seen_tuple list (Some from)) ≡ New → IsPair from back → is_free list back ≡ true → nat_lt (length list) MAX_CONNECTIONS ≡ true → CanCommit list from back
can_commit list from back fresh pair free room =
    let start = new_free list from fresh in
    let end = free_both list back free in
    record { no_entry = start.0; no_answer = start.1; free_entry = end.0; free_answer = end.1; pair = pair; room = ltb-true (length list) MAX_CONNECTIONS room }
