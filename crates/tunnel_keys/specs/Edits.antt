-- What an edit that adds and removes owners does to the keys.
use Rattle.std.specs.Prelude.{◌≡◌, ◌≢◌, ℕ, ◌⊎◌, List, map, length, take, Some, ◌↔◌}
use Rattle.ovn_base.specs.lists.Among.{Among}
use Rattle.ovn_base.specs.declared.name.Name.{Name}
use Rattle.ovn_base.specs.declared.address.Birth.{Birth}
use Rattle.ovn_base.specs.names.ByName.{at, IsByName}
use Rattle.ovn_base.specs.lists.Once.{EachOnce}
use Rattle.tunnel_keys.specs.Order.{IsInOrder}
use Rattle.tunnel_keys.specs.Keys.{Keys, IsKeys, retire, held_datapaths, held_ports, IsLegalDatapathKey, IsLegalPortKey, free_datapath_keys, free_port_keys}
use Rattle.tunnel_keys.specs.declared.owner.Identity.{Identity}
use Rattle.tunnel_keys.specs.declared.owner.DatapathKey.{DatapathKey}
use Rattle.tunnel_keys.specs.declared.owner.PortKey.{PortKey}
use Rattle.tunnel_keys.specs.declared.owner.HeldDatapath.{HeldDatapath}
use Rattle.tunnel_keys.specs.declared.owner.HeldPort.{HeldPort}
use Rattle.tunnel_keys.specs.declared.owner.KeyOwner.{KeyOwner}
use Rattle.tunnel_keys.specs.declared.owner.KeyOwner.TheVariants.{Datapath, Port}

-- ---- what an edit may be

-- the owner has a live key
abbrev pub IsLive : Keys → KeyOwner → Type 0
IsLive keys (Datapath name birth) = (key : ℕ) × (at keys.datapaths name ≡ Some (record { birth = birth; key = key }))
IsLive keys (Port datapath name birth) = (key : ℕ) × (at keys.ports name ≡ Some (record { birth = birth; datapath = datapath; key = key }))

-- the owner's identity, its name and birth, is neither live nor retired
abbrev pub IsNew : Keys → KeyOwner → Type 0
IsNew keys (Datapath name birth) = (a : HeldDatapath) → Among a (held_datapaths keys) → a.owner ≢ record { name = name; birth = birth }
IsNew keys (Port datapath name birth) = (a : HeldPort) → Among a (held_ports keys) → a.owner ≢ record { name = name; birth = birth }

-- the owner is there after the edit: it was there and is not removed, or it is added
abbrev pub IsThereAfter : Keys → List KeyOwner → List KeyOwner → KeyOwner → Type 0
IsThereAfter keys added removed owner = (IsLive keys owner × (¬ Among owner removed)) ⊎ Among owner added

-- the edit fits the keys
pub record IsKeyEdit (keys : Keys) (added removed : List KeyOwner) : Type 0 where
  -- no owner stands twice
  pub added_once : EachOnce added
  pub removed_once : EachOnce removed
  -- those that go are there, and those that come never had a key
  pub removed_live : (owner : KeyOwner) → Among owner removed → IsLive keys owner
  pub added_new : (owner : KeyOwner) → Among owner added → IsNew keys owner
  -- and no retired key is one of a datapath that comes
  pub added_bare : (name : Name) (birth : Birth) → Among (Datapath name birth) added → (a : HeldPort) → Among a keys.retired_ports → a.datapath ≢ record { name = name; birth = birth }
  -- afterwards no two datapaths and no two ports have one name, and the datapath of each port is there
  pub one_datapath : (name : Name) (b c : Birth) → IsThereAfter keys added removed (Datapath name b) → IsThereAfter keys added removed (Datapath name c) → b ≡ c
  pub one_port : (d e name : Name) (b c : Birth) → IsThereAfter keys added removed (Port d name b) → IsThereAfter keys added removed (Port e name c) → (d ≡ e) × (b ≡ c)
  pub has_datapath : (d name : Name) (b : Birth) → IsThereAfter keys added removed (Port d name b) → (c : Birth) × IsThereAfter keys added removed (Datapath d c)

-- ---- what it does

-- the added owners get keys; `between` is the keys once those of the removed owners are retired
pub record GivesKeysAfter (between : Keys) (added : List KeyOwner) (after : Keys) : Type 0 where
  pub datapath_range : after.datapath_range ≡ between.datapath_range
  pub port_range : after.port_range ≡ between.port_range
  -- the removed owners' keys are retired, beside those that were: the same set, strictly in order of identity
  pub retired_datapaths : IsInOrder (λ (h : HeldDatapath). h.owner) between.retired_datapaths after.retired_datapaths
  pub retired_ports : IsInOrder (λ (h : HeldPort). h.owner) between.retired_ports after.retired_ports
  -- who stays keeps its key
  pub datapath_kept : (name : Name) (d : DatapathKey) → at between.datapaths name ≡ Some d → at after.datapaths name ≡ Some d
  pub port_kept : (name : Name) (p : PortKey) → at between.ports name ≡ Some p → at after.ports name ≡ Some p
  -- who comes gets a key that was neither live nor retired
  pub datapath_given : (name : Name) (birth : Birth) → Among (Datapath name birth) added → (key : ℕ) × (at after.datapaths name ≡ Some (record { birth = birth; key = key })) × IsLegalDatapathKey between key
  pub port_given : (datapath name : Name) (birth : Birth) → Among (Port datapath name birth) added
      → (key : ℕ) × (d : DatapathKey) × (at after.ports name ≡ Some (record { birth = birth; datapath = datapath; key = key })) × (at after.datapaths datapath ≡ Some d) × IsLegalPortKey between (record { name = datapath; birth = d.birth }) key
  -- and nobody else has one
  pub datapath_cases : (name : Name) (d : DatapathKey) → at after.datapaths name ≡ Some d → (at between.datapaths name ≡ Some d) ⊎ Among (Datapath name d.birth) added
  pub port_cases : (name : Name) (p : PortKey) → at after.ports name ≡ Some p → (at between.ports name ≡ Some p) ⊎ Among (Port p.datapath name p.birth) added

-- an edit: the removed owners' keys are retired, then the added owners get keys that are free
abbrev pub GivesKeys : Keys → List KeyOwner → List KeyOwner → Keys → Type 0
GivesKeys before added removed after = GivesKeysAfter (retire before removed) added after

-- the datapaths that get keys, in order of name, get the least that are free
pub record GivesLeastDatapathKeys (between : Keys) (added : List KeyOwner) (after : Keys) : Type 0 where
  pub given : List (Name × DatapathKey)
  pub order : IsByName given
  pub who : (e : Name × DatapathKey) → Among e given ↔ (Among (Datapath e.0 e.1.birth) added × (at after.datapaths e.0 ≡ Some e.1))
  pub least : map (λ e. e.1.key) given ≡ take (length given) (free_datapath_keys between)

-- the ports of the datapath that get keys, in order of name, get the least that are free on it
pub record GivesLeastPortKeys (between : Keys) (added : List KeyOwner) (after : Keys) (datapath : Identity) : Type 0 where
  pub given : List (Name × PortKey)
  pub order : IsByName given
  pub who : (e : Name × PortKey) → Among e given ↔ ((e.1.datapath ≡ datapath.name) × Among (Port e.1.datapath e.0 e.1.birth) added × (at after.ports e.0 ≡ Some e.1))
  pub least : map (λ e. e.1.key) given ≡ take (length given) (free_port_keys between datapath)

-- of the free keys the least is taken, in order of datapath name, and in order of port name on each datapath
pub record GivesLeastKeys (between : Keys) (added : List KeyOwner) (after : Keys) : Type 0 where
  pub to_datapaths : GivesLeastDatapathKeys between added after
  pub to_ports : (name : Name) (d : DatapathKey) → at after.datapaths name ≡ Some d → GivesLeastPortKeys between added after (record { name = name; birth = d.birth })

-- the keys after an edit: each added owner has the least key that is free
pub record IsAfter (keys : Keys) (added removed : List KeyOwner) (after : Keys) : Type 0 where
  pub hold : IsKeys after
  pub gives : GivesKeys keys added removed after
  pub least : GivesLeastKeys (retire keys removed) added after

-- the port keeps its key where its datapath goes and one of that name comes: the key is then one of the new datapath
pub record IsMoved (keys : Keys) (added removed : List KeyOwner) (after : Keys) (a : HeldPort) : Type 0 where
  pub live : IsLive keys (Port a.datapath.name a.owner.name a.owner.birth)
  pub stays : ¬ Among (Port a.datapath.name a.owner.name a.owner.birth) removed
  pub gone : Among (Datapath a.datapath.name a.datapath.birth) removed
  pub birth : Birth
  pub comes : Among (Datapath a.datapath.name birth) added
  pub held : Among (record a { datapath = record { name = a.datapath.name; birth = birth } }) (held_ports after)

-- the keys after some edit of these keys
pub record IsPlanFor (keys after : Keys) : Type 0 where
  pub added : List KeyOwner
  pub removed : List KeyOwner
  pub fits : IsKeyEdit keys added removed
  pub gives : GivesKeys keys added removed after
