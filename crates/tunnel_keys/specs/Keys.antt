-- Tunnel keys: who has which, who had which, and which are free.
use Rattle.std.specs.Prelude.{◌≡◌, ◌≢◌, ◌≤◌, ℕ, zero, suc, not, cond, List, [], ◌∷◌, ◌++◌, map, Option, IsSome}
use Rattle.std.specs.Option.{option_map}
use Rattle.std.specs.List.{filter, filter_map}
use Rattle.std.specs.Set.{is_member}
use Rattle.std.proofs.Math.Dec.{eqb as nat_eq}
use Rattle.ovn_base.specs.declared.limits.TheConstants.{MAX_DATAPATH_KEY, MAX_PORT_KEY}
use Rattle.ovn_base.specs.lists.Among.{Among}
use Rattle.ovn_base.specs.declared.name.Name.{Name}
use Rattle.ovn_base.specs.names.ByName.{at, IsByName}
use Rattle.ovn_base.specs.names.SameName.{same_name}
use Rattle.tunnel_keys.specs.Same.{same_identity}
use Rattle.tunnel_keys.specs.Order.{IsByIdentity}
use Rattle.tunnel_keys.specs.Owners.{is_listed}
use Rattle.tunnel_keys.specs.declared.owner.Identity.{Identity}
use Rattle.tunnel_keys.specs.declared.owner.DatapathKey.{DatapathKey}
use Rattle.tunnel_keys.specs.declared.owner.PortKey.{PortKey}
use Rattle.tunnel_keys.specs.declared.owner.HeldDatapath.{HeldDatapath}
use Rattle.tunnel_keys.specs.declared.owner.HeldPort.{HeldPort}
use Rattle.tunnel_keys.specs.declared.owner.KeyOwner.{KeyOwner}
use Rattle.tunnel_keys.specs.declared.owner.KeyOwner.TheVariants.{Datapath, Port}

-- the greatest keys, the live keys in order of name, and the retired keys in order of identity; a live port's key is one of
-- the live datapath that has the name of the port's datapath
pub record Keys : Type 0 where
  pub datapath_range : ℕ
  pub port_range : ℕ
  pub datapaths : List (Name × DatapathKey)
  pub ports : List (Name × PortKey)
  pub retired_datapaths : List HeldDatapath
  pub retired_ports : List HeldPort

-- no key, live or retired
abbrev pub no_keys : ℕ → ℕ → Keys
no_keys datapath_range port_range = record { datapath_range = datapath_range; port_range = port_range; datapaths = []; ports = []; retired_datapaths = []; retired_ports = [] }

-- all retired keys are free again
abbrev pub settled : Keys → Keys
settled keys = record keys { retired_datapaths = []; retired_ports = [] }

-- the live ports of the datapath, in order of name, with their keys
abbrev pub ports_on : List (Name × PortKey) → Name → List (Name × ℕ)
ports_on ports datapath = map (λ e. (e.0, e.1.key)) (filter (λ e. same_name datapath e.1.datapath) ports)

-- ---- who has or had a key

abbrev pub datapath_owner : Name × DatapathKey → KeyOwner
datapath_owner e = Datapath e.0 e.1.birth

abbrev pub port_owner : Name × PortKey → KeyOwner
port_owner e = Port e.1.datapath e.0 e.1.birth

-- a live key with its owner
abbrev pub held_datapath : Name × DatapathKey → HeldDatapath
held_datapath e = record { owner = record { name = e.0; birth = e.1.birth }; key = e.1.key }

-- a live key with its owner and its datapath, which is the live one of that name
abbrev pub held_port : List (Name × DatapathKey) → Name × PortKey → Option HeldPort
held_port datapaths e = option_map (λ d. record { owner = record { name = e.0; birth = e.1.birth }; datapath = record { name = e.1.datapath; birth = d.birth }; key = e.1.key }) (at datapaths e.1.datapath)

-- all keys of datapaths, live and retired
abbrev pub held_datapaths : Keys → List HeldDatapath
held_datapaths keys = map held_datapath keys.datapaths ++ keys.retired_datapaths

-- all keys of ports, live and retired
abbrev pub held_ports : Keys → List HeldPort
held_ports keys = filter_map (held_port keys.datapaths) keys.ports ++ keys.retired_ports

-- the owners' keys are retired, behind those that were, and the others stay; which keys are free doesn't depend on the order
abbrev pub retire : Keys → List KeyOwner → Keys
retire keys removed = record keys {
  datapaths = filter (λ e. not (is_listed removed (datapath_owner e))) keys.datapaths;
  ports = filter (λ e. not (is_listed removed (port_owner e))) keys.ports;
  retired_datapaths = keys.retired_datapaths ++ map held_datapath (filter (λ e. is_listed removed (datapath_owner e)) keys.datapaths);
  retired_ports = keys.retired_ports ++ filter_map (held_port keys.datapaths) (filter (λ e. is_listed removed (port_owner e)) keys.ports);
}

-- ---- free keys

-- 1 up to the number
unfoldable pub numbers_to : ℕ → List ℕ
numbers_to zero = []
numbers_to (suc n) = numbers_to n ++ suc n ∷ []

-- the keys up to the greatest one that are not taken, the least first
abbrev pub free_in : ℕ → List ℕ → List ℕ
free_in range taken = filter (λ key. not (is_member nat_eq taken key)) (numbers_to range)

-- the key alone, if it is not taken
abbrev pub free_one : List ℕ → ℕ → List ℕ
free_one taken key = cond (is_member nat_eq taken key) [] (key ∷ [])

-- a key of datapaths is taken where it is live or retired
abbrev pub taken_datapaths : List (Name × DatapathKey) → List HeldDatapath → List ℕ
taken_datapaths live retired = map (λ e. e.1.key) live ++ map (λ h. h.key) retired

-- a key of ports is taken on a datapath where it is live or retired there
abbrev pub taken_ports : List (Name × PortKey) → List HeldPort → Identity → List ℕ
taken_ports live retired datapath = map (λ e. e.1.key) (filter (λ e. same_name datapath.name e.1.datapath) live) ++ map (λ h. h.key) (filter (λ h. same_identity datapath h.datapath) retired)

-- the keys that a datapath may get, the least first
abbrev pub free_datapath_keys : Keys → List ℕ
free_datapath_keys keys = free_in keys.datapath_range (taken_datapaths keys.datapaths keys.retired_datapaths)

-- the keys that a port of the datapath may get, the least first
abbrev pub free_port_keys : Keys → Identity → List ℕ
free_port_keys keys datapath = free_in keys.port_range (taken_ports keys.ports keys.retired_ports datapath)

-- in range, and not taken
pub record IsFreeIn (range : ℕ) (taken : List ℕ) (key : ℕ) : Type 0 where
  pub low : 1 ≤ key
  pub high : key ≤ range
  pub free : ¬ Among key taken

-- a datapath may get the key: it is in range, neither live nor retired
abbrev pub IsLegalDatapathKey : Keys → ℕ → Type 0
IsLegalDatapathKey keys key = IsFreeIn keys.datapath_range (taken_datapaths keys.datapaths keys.retired_datapaths) key

-- a port of the datapath may get the key: it is in range, neither live nor retired on it
abbrev pub IsLegalPortKey : Keys → Identity → ℕ → Type 0
IsLegalPortKey keys datapath key = IsFreeIn keys.port_range (taken_ports keys.ports keys.retired_ports datapath) key

-- ---- what always holds

pub record IsKeys (keys : Keys) : Type 0 where
  pub datapath_ranges : (1 ≤ keys.datapath_range) × (keys.datapath_range ≤ MAX_DATAPATH_KEY)
  pub port_ranges : (1 ≤ keys.port_range) × (keys.port_range ≤ MAX_PORT_KEY)
  pub datapaths_in_order : IsByName keys.datapaths
  pub ports_in_order : IsByName keys.ports
  pub retired_datapaths_in_order : IsByIdentity (λ (h : HeldDatapath). h.owner) keys.retired_datapaths
  pub retired_ports_in_order : IsByIdentity (λ (h : HeldPort). h.owner) keys.retired_ports
  -- the datapath of a live port is there
  pub on_datapath : (e : Name × PortKey) → Among e keys.ports → IsSome (at keys.datapaths e.1.datapath)
  -- all keys are in range
  pub datapath_keys : (a : HeldDatapath) → Among a (held_datapaths keys) → (1 ≤ a.key) × (a.key ≤ keys.datapath_range)
  pub port_keys : (a : HeldPort) → Among a (held_ports keys) → (1 ≤ a.key) × (a.key ≤ keys.port_range)
  -- no two datapaths have one key, and no two ports have one key of one datapath
  pub datapaths_apart : (a b : HeldDatapath) → Among a (held_datapaths keys) → Among b (held_datapaths keys) → a.key ≡ b.key → a.owner ≡ b.owner
  pub ports_apart : (a b : HeldPort) → Among a (held_ports keys) → Among b (held_ports keys) → a.datapath ≡ b.datapath → a.key ≡ b.key → a.owner ≡ b.owner
  -- nobody has two keys
  pub datapath_once : (a b : HeldDatapath) → Among a (held_datapaths keys) → Among b (held_datapaths keys) → a.owner ≡ b.owner → a ≡ b
  pub port_once : (a b : HeldPort) → Among a (held_ports keys) → Among b (held_ports keys) → a.owner ≡ b.owner → a ≡ b
  -- nobody has a live key and a retired one
  pub datapath_live : (e : Name × DatapathKey) (a : HeldDatapath) → Among e keys.datapaths → Among a keys.retired_datapaths → a.owner ≢ (held_datapath e).owner
  pub port_live : (e : Name × PortKey) (a : HeldPort) → Among e keys.ports → Among a keys.retired_ports → a.owner ≢ record { name = e.0; birth = e.1.birth }
