-- Lists of connections.
use Rattle.std.specs.Prelude.{◌≡◌, ◌≢◌, ℕ, ◌+◌, ◌≤◌, nat_lt, nat_le, ◌<◌, Bool, false, not, ◌&&◌, cond, List, [], ◌∷◌, length, Option, Some, None, is_none, Result, Ok, Err}
use Rattle.std.specs.BTreeMap.{is_at, insert_entry}
use Rattle.std.specs.List.{filter}
use Rattle.std.specs.List.Sorted.{IsStrictlySortedBy}
use Rattle.std.specs.Map.{keys_of, lookup, set_value}
use Rattle.ovn_base.specs.lists.Among.{Among}
use Rattle.conn_table.specs.declared.connection.CommitFault.{CommitFault}
use Rattle.conn_table.specs.declared.connection.CommitFault.TheVariants.{Clash, Full}
use Rattle.conn_table.specs.declared.connection.Entry.{Entry}
use Rattle.ovn_base.specs.declared.limits.TheConstants.{MAX_CONNECTIONS}
use Rattle.conn_table.specs.declared.idle.TheConstants.{TCP_IDLE, UDP_IDLE, OTHER_IDLE}
use Rattle.conn_table.specs.declared.tuple.Protocol.{Protocol}
use Rattle.conn_table.specs.declared.tuple.Protocol.TheVariants.{Tcp, Udp, EchoReply}
use Rattle.conn_table.specs.declared.tuple.Tuple.{Tuple}
use Rattle.conn_table.specs.Order.{same_tuple, tuple_cmp}
use Rattle.conn_table.specs.Tuples.{reversed_protocol, HasItsPorts}

-- the entries, each at its forward tuple, in order of these
abbrev pub ConnectionList : Type 0
ConnectionList = List (Tuple × Entry)

-- ---- look-ups

-- the entry of the forward tuple
abbrev pub entry_of : ConnectionList → Tuple → Option Entry
entry_of list t = lookup (is_at (tuple_cmp t)) list

-- the entry of the reply tuple
abbrev pub answered : ConnectionList → Tuple → Option Entry
answered [] t = None
answered (e ∷ es) t = cond (same_tuple e.1.reply t) (Some e.1) (answered es t)

-- no entry has the tuple
abbrev pub is_free : ConnectionList → Tuple → Bool
is_free list t = is_none (entry_of list t) && is_none (answered list t)

-- ---- a new entry

-- a connection of these tuples begins now
abbrev pub begun : Tuple → Tuple → ℕ → Entry
begun forward reply now = record { forward = forward; reply = reply; blocked = false; used = now }

-- the list with one more entry; the reply tuple must be free, and there must be room
abbrev pub committed : ConnectionList → Tuple → Tuple → ℕ → Result ConnectionList CommitFault
committed list forward reply now =
    cond (not (is_free list reply)) (Err (Clash reply))
    (cond (nat_lt (length list) MAX_CONNECTIONS) (Ok (insert_entry tuple_cmp list forward (begun forward reply now))) (Err Full))

-- ---- changes of an entry

-- the list with the entry of the forward tuple changed so
abbrev pub changed_option : (Entry → Entry) → Tuple → ConnectionList → Option Entry → ConnectionList
changed_option f t list None = list
changed_option f t list (Some e) = set_value (is_at (tuple_cmp t)) list (f e)

abbrev pub changed : (Entry → Entry) → Tuple → ConnectionList → ConnectionList
changed f t list = changed_option f t list (entry_of list t)

abbrev pub touched : ℕ → Entry → Entry
touched now e = record e { used = now }

abbrev pub blocked_as : Bool → Entry → Entry
blocked_as blocked e = record e { blocked = blocked }

-- ---- time

-- how long a connection lasts that isn't used, in seconds
abbrev pub idle_limit : Protocol → ℕ
idle_limit Tcp = TCP_IDLE
idle_limit Udp = UDP_IDLE
idle_limit _ = OTHER_IDLE

-- its last use lies at least so long back
abbrev pub is_idle : ℕ → Entry → Bool
is_idle now e = nat_le (e.used + idle_limit e.forward.protocol) now

-- the entries that are left at this time
abbrev pub expired : ℕ → ConnectionList → ConnectionList
expired now list = filter (λ e. not (is_idle now e.1)) list

-- ---- what always holds

-- the two tuples form an entry
pub record IsPair (forward reply : Tuple) : Type 0 where
  pub begins : forward.protocol ≢ EchoReply
  pub answers : reply.protocol ≡ reversed_protocol forward.protocol
  pub forward_ports : HasItsPorts forward.protocol forward.src_port forward.dst_port
  pub reply_ports : HasItsPorts reply.protocol reply.src_port reply.dst_port

-- an entry at its forward tuple
pub record IsConnection (key : Tuple) (e : Entry) : Type 0 where
  pub at_forward : e.forward ≡ key
  pub pair : IsPair e.forward e.reply

-- entries in order of forward tuple, not too many; all tuples of different entries differ
pub record IsConnectionList (list : ConnectionList) : Type 0 where
  pub in_order : IsStrictlySortedBy tuple_cmp (keys_of list)
  pub connections : (t : Tuple) (e : Entry) → Among (t, e) list → IsConnection t e
  pub replies_apart : (t u : Tuple) (e f : Entry) → Among (t, e) list → Among (u, f) list → e.reply ≡ f.reply → t ≡ u
  pub ends_apart : (t u : Tuple) (e f : Entry) → Among (t, e) list → Among (u, f) list → e.reply ≡ f.forward → t ≡ u
  pub few : length list ≤ MAX_CONNECTIONS

-- an entry of the two tuples can be added
pub record CanCommit (list : ConnectionList) (forward reply : Tuple) : Type 0 where
  pub no_entry : entry_of list forward ≡ None
  pub no_answer : answered list forward ≡ None
  pub free_entry : entry_of list reply ≡ None
  pub free_answer : answered list reply ≡ None
  pub pair : IsPair forward reply
  pub room : length list < MAX_CONNECTIONS

-- the forward tuple of each entry stands at its reply tuple, and nothing else does
pub record IsIndex (forwards : List (Tuple × Tuple)) (list : ConnectionList) : Type 0 where
  pub sound : (r t : Tuple) → lookup (is_at (tuple_cmp r)) forwards ≡ Some t → (e : Entry) × Among (t, e) list × (e.reply ≡ r)
  pub whole : (t : Tuple) (e : Entry) → Among (t, e) list → lookup (is_at (tuple_cmp e.reply)) forwards ≡ Some t

-- the entries, with the forward tuples at their reply tuples
pub record IsZone (list : ConnectionList) (forwards : List (Tuple × Tuple)) : Type 0 where
  pub law : IsConnectionList list
  pub index : IsIndex forwards list
