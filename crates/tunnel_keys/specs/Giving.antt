-- How the program gives keys: the added owners in order of name, side by side with the free keys, the least first.
use Rattle.std.specs.Prelude.{◌≡◌, ◌≤◌, ◌<◌, ℕ, List, [], ◌∷◌, ◌++◌, Option, Some, None, length, map}
use Rattle.std.specs.List.{filter, flat_map, AllByRecursion}
use Rattle.ovn_base.specs.declared.name.Name.{Name}
use Rattle.ovn_base.specs.declared.address.Birth.{Birth}
use Rattle.ovn_base.specs.names.ByName.{put, in_order}
use Rattle.tunnel_keys.specs.Same.{same_identity}
use Rattle.tunnel_keys.specs.Owners.{datapaths_in, ports_in}
use Rattle.ovn_base.specs.declared.ports.Ports.{Ports}
use Rattle.tunnel_keys.specs.Keys.{free_in, taken_datapaths, taken_ports, ports_on}
use Rattle.tunnel_keys.specs.declared.fault.KeyFault.{KeyFault}
use Rattle.tunnel_keys.specs.declared.fault.KeyFault.TheVariants.{NoDatapathKey, NoPortKey, Memory}
use Rattle.tunnel_keys.specs.declared.owner.DatapathKey.{DatapathKey}
use Rattle.tunnel_keys.specs.declared.owner.PortKey.{PortKey}
use Rattle.tunnel_keys.specs.declared.owner.Identity.{Identity}
use Rattle.tunnel_keys.specs.declared.owner.HeldDatapath.{HeldDatapath}
use Rattle.tunnel_keys.specs.declared.owner.HeldPort.{HeldPort}
use Rattle.tunnel_keys.specs.declared.owner.KeyOwner.{KeyOwner}

-- the entries with the value put, if there is one
abbrev pub put_option : {X : Type 0} → List (Name × X) → Option (Name × X) → List (Name × X)
put_option entries None = entries
put_option entries (Some e) = put entries e.0 e.1

-- each with its key, as far as there are keys
abbrev pub with_keys : {X : Type 0} → (Birth → ℕ → X) → List (Name × Birth) → List ℕ → List (Name × X)
with_keys make [] keys = []
with_keys make (a ∷ as') [] = []
with_keys make (a ∷ as') (key ∷ keys) = (a.0, make a.1 key) ∷ with_keys make as' keys

abbrev pub new_datapath_key : Birth → ℕ → DatapathKey
new_datapath_key birth key = record { birth = birth; key = key }

abbrev pub new_port_key : Name → Birth → ℕ → PortKey
new_port_key datapath birth key = record { birth = birth; datapath = datapath; key = key }

-- the keys that are taken on a datapath, of the live ports there and of the retired ports that were there
abbrev pub taken_on : List (Name × ℕ) → List HeldPort → Identity → List ℕ
taken_on live retired datapath = map (λ p. p.1) live ++ map (λ h. h.key) (filter (λ h. same_identity datapath h.datapath) retired)

-- what the added datapaths get, beside these live and retired keys
abbrev pub given_datapaths : ℕ → List (Name × DatapathKey) → List HeldDatapath → List KeyOwner → List (Name × DatapathKey)
given_datapaths range live retired added = with_keys new_datapath_key (in_order (datapaths_in added)) (free_in range (taken_datapaths live retired))

-- what the ports added to the datapath get
abbrev pub given_ports_on : ℕ → List (Name × PortKey) → List HeldPort → List KeyOwner → Name × DatapathKey → List (Name × PortKey)
given_ports_on range live retired added d = with_keys (new_port_key d.0) (in_order (ports_in d.0 added)) (free_in range (taken_ports live retired (record { name = d.0; birth = d.1.birth })))

-- what the added ports get, on one datapath after the other
abbrev pub given_ports : ℕ → List (Name × PortKey) → List HeldPort → List KeyOwner → List (Name × DatapathKey) → List (Name × PortKey)
given_ports range live retired added datapaths = flat_map (given_ports_on range live retired added) datapaths

-- the datapath has a free key for each port that is added to it
abbrev pub HasEnough : ℕ → List (Name × PortKey) → List HeldPort → List KeyOwner → Name × DatapathKey → Type 0
HasEnough range live retired added d = length (in_order (ports_in d.0 added)) ≤ length (free_in range (taken_ports live retired (record { name = d.0; birth = d.1.birth })))

-- there are fewer free keys than datapaths
abbrev pub IsDatapathFault : List ℕ → List (Name × Birth) → KeyFault → Type 0
IsDatapathFault free arrivals NoDatapathKey = length free < length arrivals
IsDatapathFault free arrivals (NoPortKey d) = ⊥
IsDatapathFault free arrivals Memory = Unit {0}

-- there are fewer free keys on the datapath than ports
abbrev pub IsPortFaultOn : Name → List ℕ → List (Name × Birth) → KeyFault → Type 0
IsPortFaultOn name free arrivals NoDatapathKey = ⊥
IsPortFaultOn name free arrivals (NoPortKey d) = (d ≡ name) × (length free < length arrivals)
IsPortFaultOn name free arrivals Memory = Unit {0}

-- the first of the datapaths that has fewer free keys than ports
pub record IsFirstShort (range : ℕ) (live : List (Name × PortKey)) (retired : List HeldPort) (added : List KeyOwner) (datapaths : List (Name × DatapathKey)) (name : Name) : Type 0 where
  pub before : List (Name × DatapathKey)
  pub datapath : DatapathKey
  pub behind : List (Name × DatapathKey)
  pub split : datapaths ≡ before ++ (name, datapath) ∷ behind
  pub enough : AllByRecursion (HasEnough range live retired added) before
  pub short : length (free_in range (taken_ports live retired (record { name = name; birth = datapath.birth }))) < length (in_order (ports_in name added))

abbrev pub IsPortFault : ℕ → List (Name × PortKey) → List HeldPort → List KeyOwner → List (Name × DatapathKey) → KeyFault → Type 0
IsPortFault range live retired added datapaths NoDatapathKey = ⊥
IsPortFault range live retired added datapaths (NoPortKey d) = IsFirstShort range live retired added datapaths d
IsPortFault range live retired added datapaths Memory = Unit {0}

-- each datapath's ports in a list
abbrev pub lists_of : List (Name × PortKey) → List (Name × DatapathKey) → List (Name × Ports)
lists_of ports datapaths = map (λ e. (e.0, record { list = ports_on ports e.0 })) datapaths
