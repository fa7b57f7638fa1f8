-- Zones that hold the connection lists of those who are at home on a chassis.
use Rattle.std.specs.Prelude.{◌≡◌, ◌<◌, ℕ, ◌^◌, List, Option, Some}
use Rattle.conn_table.specs.Connections.{ConnectionList, IsZone}
use Rattle.conn_table.specs.declared.connection.Entry.{Entry}
use Rattle.conn_table.specs.declared.tuple.Tuple.{Tuple}
use Rattle.net_model.specs.Trail.{Lists, ListOwner, of_port, dnat_of, snat_of}
use Rattle.ovn_base.specs.lists.Among.{Among}
use Rattle.ovn_base.specs.names.ByName.{at}
use Rattle.switch_engine.specs.Zones.{ZoneLists, zone_at}

-- who has a zone on the chassis, and with which number
abbrev pub ZoneNumbers : Type 0
ZoneNumbers = ListOwner → Option ℕ

-- no two have one number
abbrev pub AreApart : ZoneNumbers → Type 0
AreApart number = (one other : ListOwner) (z : ℕ) → number one ≡ Some z → number other ≡ Some z → one ≡ other

-- ---- lists

-- the addresses and ports of a tuple are in their ranges
pub record IsTupleWithin (t : Tuple) : Type 0 where
  pub src : t.src.0 < 2 ^ 32
  pub src_port : t.src_port < 2 ^ 16
  pub dst : t.dst.0 < 2 ^ 32
  pub dst_port : t.dst_port < 2 ^ 16

pub record IsEntryWithin (e : Entry) : Type 0 where
  pub forward : IsTupleWithin e.forward
  pub reply : IsTupleWithin e.reply

-- a connection list as a zone holds it
pub record IsGoodList (list : ConnectionList) : Type 0 where
  pub forwards : List (Tuple × Tuple)
  pub zone : IsZone list forwards
  pub within : (t : Tuple) (e : Entry) → Among (t, e) list → IsEntryWithin e

-- the list of an owner that has one
abbrev pub list_there : Lists → ListOwner → Option ConnectionList
list_there lists (of_port q) = at lists.ports q
list_there lists (dnat_of r) = at lists.dnats r
list_there lists (snat_of r) = at lists.snats r

-- ---- zones

-- the zone is the owner's list
pub record IsHeldIn (zones : ZoneLists) (lists : Lists) (owner : ListOwner) (z : ℕ) : Type 0 where
  pub list : ConnectionList
  pub has : list_there lists owner ≡ Some list
  pub held : zone_at zones z ≡ Some list
  pub good : IsGoodList list

-- so is the zone of everyone who has one
abbrev pub HoldLists : ZoneNumbers → ZoneLists → Lists → Type 0
HoldLists number zones lists = (owner : ListOwner) (z : ℕ) → number owner ≡ Some z → IsHeldIn zones lists owner z
