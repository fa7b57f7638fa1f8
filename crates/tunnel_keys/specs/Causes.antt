-- Why an edit gets no keys.
use Rattle.std.specs.Prelude.{◌<◌, ◌≢◌, List, length}
use Rattle.std.specs.Cmp.Lexicographic.{slice_cmp}
use Rattle.std.specs.Ordering.{nat_cmp}
use Rattle.std.specs.declared.cmp.Ordering.TheVariants.{Less}
use Rattle.ovn_base.specs.declared.name.Name.{Name}
use Rattle.ovn_base.specs.declared.address.Birth.{Birth}
use Rattle.tunnel_keys.specs.Owners.{datapaths_in, ports_in}
use Rattle.tunnel_keys.specs.Keys.{Keys, retire, free_datapath_keys, free_port_keys}
use Rattle.tunnel_keys.specs.Edits.{IsThereAfter}
use Rattle.tunnel_keys.specs.declared.fault.KeyFault.{KeyFault}
use Rattle.tunnel_keys.specs.declared.fault.KeyFault.TheVariants.{NoDatapathKey, NoPortKey, Memory}
use Rattle.tunnel_keys.specs.declared.owner.KeyOwner.{KeyOwner}
use Rattle.tunnel_keys.specs.declared.owner.KeyOwner.TheVariants.{Datapath}

-- the edit adds more datapaths than keys are neither live nor retired
abbrev pub LacksDatapathKeys : Keys → List KeyOwner → List KeyOwner → Type 0
LacksDatapathKeys keys added removed = length (free_datapath_keys (retire keys removed)) < length (datapaths_in added)

-- the edit adds more ports to the datapath than keys are neither live nor retired on it
pub record LacksPortKeys (keys : Keys) (added removed : List KeyOwner) (datapath : Name) : Type 0 where
  pub birth : Birth
  pub there : IsThereAfter keys added removed (Datapath datapath birth)
  pub few : length (free_port_keys (retire keys removed) (record { name = datapath; birth = birth })) < length (ports_in datapath added)

-- each datapath has enough keys for the ports that are added to it
abbrev pub HasPortKeys : Keys → List KeyOwner → List KeyOwner → Type 0
HasPortKeys keys added removed = (datapath : Name) → ¬ LacksPortKeys keys added removed datapath

-- the first datapath, in order of name, that has too few keys
pub record IsFirstToLack (keys : Keys) (added removed : List KeyOwner) (datapath : Name) : Type 0 where
  pub lacks : LacksPortKeys keys added removed datapath
  pub first : (other : Name) → LacksPortKeys keys added removed other → slice_cmp nat_cmp other datapath ≢ Less

-- when an edit is refused; memory alone is free
abbrev pub IsCause : Keys → List KeyOwner → List KeyOwner → KeyFault → Type 0
IsCause keys added removed NoDatapathKey = LacksDatapathKeys keys added removed
IsCause keys added removed (NoPortKey datapath) = (¬ LacksDatapathKeys keys added removed) × IsFirstToLack keys added removed datapath
IsCause keys added removed Memory = Unit {0}

-- when it is not
pub record HasKeys (keys : Keys) (added removed : List KeyOwner) : Type 0 where
  pub datapaths : ¬ LacksDatapathKeys keys added removed
  pub ports : HasPortKeys keys added removed
