-- Connection lists at a time.
use Rattle.std.specs.Prelude.{◌≤◌, ℕ}
use Rattle.conn_table.specs.Connections.{ConnectionList, IsConnectionList}
use Rattle.conn_table.specs.declared.connection.Entry.{Entry}
use Rattle.conn_table.specs.declared.tuple.Tuple.{Tuple}
use Rattle.ovn_base.specs.lists.Among.{Among}
use Rattle.net_model.specs.Trail.{Lists, ListOwner, list_of}

-- the list is one, and no last use of its connections comes after the time
pub record IsListAt (now : ℕ) (list : ConnectionList) : Type 0 where
  pub law : IsConnectionList list
  pub used : (t : Tuple) (e : Entry) → Among (t, e) list → e.used ≤ now

-- so are those of all owners
abbrev pub AreListsAt : ℕ → Lists → Type 0
AreListsAt now lists = (owner : ListOwner) → IsListAt now (list_of lists owner)
