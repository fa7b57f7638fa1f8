-- What a way does to a trail, step by step: whatever holds of these five steps holds of every way.
use Rattle.std.specs.Prelude.{◌≡◌, ◌≤◌, ◌&&◌, ◌++◌, ℕ, Bool, true, List, Option, Some, Ok}
use Rattle.std.specs.Map.{keys_of}
use Rattle.conn_table.specs.Connections.{ConnectionList, committed, IsPair}
use Rattle.conn_table.specs.Picks.{Choice}
use Rattle.conn_table.specs.Tracking.{new, seen_tuple}
use Rattle.conn_table.specs.declared.connection.Entry.{Entry}
use Rattle.conn_table.specs.declared.tuple.Tuple.{Tuple}
use Rattle.inet_packet.specs.declared.packet.Packet.{Packet}
use Rattle.nb_records.specs.Routers.{Partner}
use Rattle.ovn_base.specs.declared.name.Name.{Name}
use Rattle.net_model.specs.Tracking.{refresh}
use Rattle.net_model.specs.Trail.{Trail, Lists, ListOwner, list_of, write_list, End, tell, Spot, Point, goes, stops}

-- the change leaves an entry's tuples as they are
abbrev pub KeepsTuples : (Entry → Entry) → Type 0
KeepsTuples change = (e : Entry) → ((change e).forward ≡ e.forward) × ((change e).reply ≡ e.reply)

-- and it leaves no last use after the time, where there was none
abbrev pub UsesBy : ℕ → (Entry → Entry) → Type 0
UsesBy now change = (e : Entry) → e.used ≤ now → (change e).used ≤ now

-- from one trail to another: nothing; an end; a connection that is new and can be committed; a changed entry; a choice
pub data Leads (now : ℕ) (t : Trail) : Trail → Type 0 where
  stays : Leads now t t
  tells : {u : Trail} (e : End) → Leads now t u → Leads now t (tell e u)
  commits : {u : Trail} (owner : ListOwner) (from back : Tuple) (list : ConnectionList)
      → seen_tuple (list_of u.lists owner) (Some from) ≡ new from → IsPair from back → committed (list_of u.lists owner) from back now ≡ Ok list
      → Leads now t u → Leads now t (write_list owner list u)
  refreshes : {u : Trail} (owner : ListOwner) (change : Entry → Entry) (e : Entry) → KeepsTuples change → UsesBy now change → Leads now t u → Leads now t (refresh owner change e u)
  chooses : {u : Trail} (legal : Bool) (left : List Choice) → Leads now t u → Leads now t (record u { choices = left; legal = u.legal && legal })

-- ---- pieces and ways

abbrev pub PointLeads : ℕ → Trail → Point → Type 0
PointLeads now t (goes u p) = Leads now t u
PointLeads now t (stops u) = Leads now t u

-- a piece of the way leads on from any trail, and so does a whole way
abbrev pub PieceLeads : ℕ → (Trail → Packet → Point) → Type 0
PieceLeads now f = (t : Trail) (p : Packet) → PointLeads now t (f t p)

abbrev pub WayLeads : ℕ → (Trail → Packet → Trail) → Type 0
WayLeads now f = (t : Trail) (p : Packet) → Leads now t (f t p)

abbrev pub OnwardLeads : ℕ → (Spot → Option Partner → Trail → Packet → Trail) → Type 0
OnwardLeads now onward = (spot : Spot) (partner : Option Partner) → WayLeads now (onward spot partner)

-- ---- what follows

-- who has lists, of each kind
abbrev pub list_owners : Lists → List Name × List Name × List Name
list_owners lists = (keys_of lists.ports, keys_of lists.dnats, keys_of lists.snats)

-- the ends only grow, what was not legal stays so, and who has lists stays
pub record IsLater (t u : Trail) : Type 0 where
  pub ends : (more : List End) × (u.ends ≡ t.ends ++ more)
  pub legal : u.legal ≡ true → t.legal ≡ true
  pub owners : list_owners u.lists ≡ list_owners t.lists
