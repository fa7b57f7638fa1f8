-- What the code says of a connection that begins.
use Rattle.std.specs.Prelude.{◌≡◌, ℕ, true, false, List, [], length, slice_get, Option, Some, None, option_map, Result, Ok, Err}
use Rattle.std.specs.List.{filter}
use Rattle.ovn_base.specs.declared.address.Backend.{Backend}
use Rattle.inet_packet.specs.declared.packet.Packet.{Packet}
use Rattle.flow_table.specs.declared.flow.Cause.{Cause}
use Rattle.conn_table.specs.declared.connection.CommitFault.{CommitFault}
use Rattle.conn_table.specs.declared.connection.State.TheVariants.{New}
use Rattle.conn_table.specs.declared.tuple.Tuple.{Tuple}
use Rattle.conn_table.specs.Connections.{ConnectionList, is_free, committed}
use Rattle.conn_table.specs.Picks.{is_free_backend, backend_index, has_free_port, may_pick, is_least_port}
use Rattle.conn_table.specs.Tracking.{Seen, new, seen_tuple, state_of}
use Rattle.switch_engine.specs.declared.commits.Source.{Source}
use Rattle.switch_engine.specs.declared.commits.Source.TheVariants.{Kept, Port, NoneFree}
use Rattle.switch_engine.specs.Commits.{commit_cause, newcomer}
use Rattle.switch_engine.specs.Zones.{ZoneLists, zone_at, over_zone}

-- the tuple of a packet that begins a connection
abbrev pub tuple_if_new : Seen → Option Tuple
tuple_if_new (new t) = Some t
tuple_if_new _ = None

abbrev pub new_tuple : ℕ → ZoneLists → Packet → Option Tuple
new_tuple z zones p = option_map (λ n. n.tuple) (newcomer z zones p)

-- the tuple is new to the list of the zone, which is there
pub record IsNewAt (z : ℕ) (zones : ZoneLists) (t : Tuple) : Type 0 where
  pub list : ConnectionList
  pub there : zone_at zones z ≡ Some list
  pub is_new : state_of (seen_tuple list (Some t)) ≡ New

-- why a connection isn't added, if it isn't, and the list afterwards
abbrev pub commit_refusal : Result ConnectionList CommitFault → Option Cause
commit_refusal (Ok list) = None
commit_refusal (Err why) = Some (commit_cause why)

abbrev pub list_after : ConnectionList → Result ConnectionList CommitFault → ConnectionList
list_after list (Ok longer) = longer
list_after list (Err why) = list

-- so it is in a zone
abbrev pub refusal_in : ℕ → Tuple → Tuple → Option ConnectionList → Option Cause
refusal_in now from back None = None
refusal_in now from back (Some list) = commit_refusal (committed list from back now)

abbrev pub zones_after : ℕ → ℕ → Tuple → Tuple → ZoneLists → ZoneLists
zones_after now z from back zones = over_zone (λ list. list_after list (committed list from back now)) z zones

-- the backend that the program picks
abbrev pub backend_of : Tuple → List Backend → Option Backend
backend_of t legal = slice_get legal (backend_index t (length legal))

abbrev pub backend_in : Tuple → List Backend → Option ConnectionList → Option Backend
backend_in t bs None = None
backend_in t bs (Some list) = backend_of t (filter (is_free_backend list t) bs)

-- what the program makes of the source: the port is kept where that is free, or it becomes the least that is, if there is one
abbrev pub IsSource : Tuple → Source → ConnectionList → Type 0
IsSource back Kept list = is_free list back ≡ true
IsSource back (Port n) list = (is_free list back ≡ false) × (has_free_port list back ≡ true) × (may_pick list back n ≡ true) × (is_least_port list back n ≡ true)
IsSource back NoneFree list = (is_free list back ≡ false) × (has_free_port list back ≡ false)

abbrev pub IsSourceIn : Tuple → Source → Option ConnectionList → Type 0
IsSourceIn back source None = Unit {0}
IsSourceIn back source (Some list) = IsSource back source list
