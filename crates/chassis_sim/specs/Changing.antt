-- How what the chassis hold is changed.
use Rattle.std.specs.Prelude.{◌≡◌, ◌≤◌, ℕ, nat_eq, ◌&&◌, cond, List, [], ◌∷◌, ◌++◌, map, length, Option, Some, None}
use Rattle.std.specs.List.{AllByRecursion}
use Rattle.std.specs.Map.{keys_of}
use Rattle.ovn_base.specs.declared.delta.Delta.{Delta}
use Rattle.ovn_base.specs.declared.name.Name.{Name}
use Rattle.ovn_base.specs.lists.Once.{EachOnce}
use Rattle.ovn_base.specs.names.SameName.{same_name}
use Rattle.flow_table.specs.declared.flow.Flow.{Flow}
use Rattle.flow_table.specs.Change.{IsDeltaOf, IsReplaced}
use Rattle.conn_table.specs.Connections.{ConnectionList}
use Rattle.switch_engine.specs.Proper.{IsProper}
use Rattle.switch_engine.specs.Zones.{HeldZones, ZoneLists, zone_at}
use Rattle.chassis_sim.specs.declared.change.SimChange.{SimChange}
use Rattle.chassis_sim.specs.Settings.{set_in_turn, AreSet}
use Rattle.chassis_sim.specs.State.{KeyPair, same_pair, SimState, SimRoom, at_name}

-- the flows of a chassis after a delta, if it is given one, by those before: each flow once
abbrev pub AreReplaced : Option (Delta Flow) → Option (List Flow) → Option (List Flow) → Type 0
AreReplaced (Some delta) (Some flows) after = (others : List Flow) × (after ≡ Some others) × IsReplaced flows delta others × EachOnce others
AreReplaced (Some delta) None after = after ≡ None
AreReplaced None before after = after ≡ before

-- each pair of keys with its name
abbrev pub given_name : ℕ × ℕ × Name → KeyPair × Option Name
given_name given = ((given.0, given.1), Some given.2)

-- what a chassis that goes holds afterwards
abbrev pub gone : {X : Type 0} → Name → Name × Option X
gone name = (name, None)

-- a chassis that comes has no zone
abbrev pub without_zone : {T : Type 0} → Name × T → Name × Option ZoneLists
without_zone added = (added.0, Some [])

-- the list of a zone of the chassis after zones are emptied, by the one before
abbrev pub emptied_at : List (Name × ℕ) → Name → ℕ → Option ConnectionList → Option ConnectionList
emptied_at [] name z list = list
emptied_at (e ∷ emptied) name z list = emptied_at emptied name z (cond (same_name e.0 name && nat_eq e.1 z) (Some []) list)

-- the zones of a chassis afterwards: those that are named are there and empty, and all others stay; where there are no zones nothing comes of it
abbrev pub AreEmptied : List (Name × ℕ) → Name → Option ZoneLists → Option ZoneLists → Type 0
AreEmptied emptied name None after = after ≡ None
AreEmptied emptied name (Some old) after = (new : ZoneLists) × (after ≡ Some new) × ((z : ℕ) → zone_at new z ≡ emptied_at emptied name z (zone_at old z))

module _ {T : Type 0} (flows_of : T → List Flow) where
  -- what a chassis that comes holds
  abbrev pub come : Name × T → Name × Option (List Flow)
  come added = (added.0, Some (flows_of added.1))

  -- the chassis that go, and then those that come
  abbrev pub coming_and_going : SimChange T → List (Name × Option (List Flow))
  coming_and_going change = map gone change.removed ++ map come change.added

  -- a chassis's flows after the change, by those before: first come the deltas, then chassis go, then chassis come
  abbrev pub IsChanged : SimChange T → Name → Option (List Flow) → Option (List Flow) → Type 0
  IsChanged change name before after =
      (between : Option (List Flow)) × AreReplaced (at_name change.tables name) before between × (after ≡ set_in_turn same_name (coming_and_going change) name between)

  -- a chassis's zones after the change, by those before: first chassis go, then chassis come without a zone, then zones are emptied
  abbrev pub IsRezoned : SimChange T → Name → Option ZoneLists → Option ZoneLists → Type 0
  IsRezoned change name before after = AreEmptied change.emptied name (set_in_turn same_name (map gone change.removed ++ map without_zone change.added) name before) after

  -- the change is made, and nothing else
  pub record IsApplied (old : SimState) (change : SimChange T) (new : SimState) : Type 0 where
    pub chassis : (name : Name) → IsChanged change name (at_name old.chassis name) (at_name new.chassis name)
    pub zones : (name : Name) → IsRezoned change name (at_name old.zones name) (at_name new.zones name)
    pub bindings : AreSet same_name change.bound old.bindings new.bindings
    pub names : AreSet same_pair (map given_name change.names) old.names new.names
    pub waiting : new.waiting ≡ old.waiting
    pub next : new.next ≡ old.next

  -- the flows that come are proper
  pub record IsProperChange (change : SimChange T) : Type 0 where
    pub deltas : AllByRecursion (λ table. IsProper table.1.added) change.tables
    pub chassis : AllByRecursion (λ added. IsProper (flows_of added.1)) change.added

-- the delta is one of these flows, if there are any
abbrev pub IsDeltaOfAny : Delta Flow → Option (List Flow) → Type 0
IsDeltaOfAny delta None = Unit {0}
IsDeltaOfAny delta (Some flows) = IsDeltaOf flows delta

-- each delta is one of the flows of its chassis
abbrev pub AllAreDeltas : List (Name × List Flow) → List (Name × Delta Flow) → Type 0
AllAreDeltas chassis tables = AllByRecursion (λ table. IsDeltaOfAny table.1 (at_name chassis table.0)) tables

-- the zone of the number is there, or there is room for so many more; where there are no zones nothing is asked
abbrev pub HasRoomFor : ℕ → ℕ → Option HeldZones → Type 0
HasRoomFor room number None = Unit {0}
HasRoomFor room number (Some held) = zone_at held.zones number ≡ None → room ≤ held.room

-- each of these zones has room, or is there
abbrev pub HaveRoom : ℕ → List (Name × HeldZones) → List (Name × ℕ) → Type 0
HaveRoom room held emptied = AllByRecursion (λ e. HasRoomFor room e.1 (at_name held e.0)) emptied

-- what had room for a zone still has it
abbrev pub KeepsRoom : List (Name × HeldZones) → List (Name × HeldZones) → Type 0
KeepsRoom old new = (room number : ℕ) (name : Name) → HasRoomFor room number (at_name old name) → HasRoomFor room number (at_name new name)

-- no zone, and room for so many
pub record IsFresh (room : ℕ) (held : HeldZones) : Type 0 where
  pub none : held.zones ≡ []
  pub enough : room ≤ held.room

module _ {T : Type 0} (ready : T → Delta Flow → Type 0) where
  -- the tables are ready for the delta, if there are any
  abbrev pub IsReadyFor : Delta Flow → Option T → Type 0
  IsReadyFor delta None = Unit {0}
  IsReadyFor delta (Some tables) = ready tables delta

  -- the tables of each chassis are ready for its delta
  abbrev pub AreReady : List (Name × T) → List (Name × Delta Flow) → Type 0
  AreReady held tables = AllByRecursion (λ table. IsReadyFor table.1 (at_name held table.0)) tables

  -- the tables are ready for the deltas, there is room for the zones that are emptied, and fresh zones for each chassis that comes
  pub record AreReadied (change : SimChange T) (held : List (Name × T)) (lists : List (Name × HeldZones)) (coming : List HeldZones) : Type 0 where
    pub tables : AreReady held change.tables
    pub zones : HaveRoom (length change.emptied) lists change.emptied
    pub enough : length change.added ≤ length coming
    pub fresh : AllByRecursion (IsFresh (length change.emptied)) coming

  -- there is room for what the change brings, and all is ready for its deltas, of which no two are for one chassis, and its zones
  pub record IsPrepared (room : SimRoom T) (change : SimChange T) : Type 0 where
    pub chassis : length change.added ≤ room.chassis
    pub bindings : length change.bound ≤ room.bindings
    pub names : length change.names ≤ room.names
    pub zoned : length change.added ≤ room.zoned
    pub readied : AreReadied change room.tables room.zones room.fresh
    pub once : EachOnce (keys_of change.tables)

  -- each change that was prepared is still prepared
  abbrev pub StaysPrepared : SimRoom T → SimRoom T → Type 0
  StaysPrepared old new = (change : SimChange T) → IsPrepared old change → IsPrepared new change
