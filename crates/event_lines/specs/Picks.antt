-- The picks that a text names, and those that effects name.
use Rattle.std.specs.Prelude.{◌≡◌, ◌<◌, ◌≤◌, ◌^◌, ◌&&◌, ◌==◌, ◌⊎◌, ◌++◌, ℕ, Bool, List, [], ◌∷◌, Option, Some, None, codes, flat_map, length, nat_lt, if◌then◌else◌}
use Rattle.std.specs.Cmp.Lexicographic.{pointwise}
use Rattle.std.specs.List.{AllByRecursion, slice_split}
use Rattle.std.specs.Str.{all_ascii_digits}
use Rattle.std.specs.Str.Parse.{digits_value}
use Rattle.std.proofs.Math.Dec.{eqb as nat_eq}
use Rattle.ovn_base.specs.lines.Lines.{ended_lines}
use Rattle.ovn_base.specs.names.NameText.{IsName}
use Rattle.ovn_base.specs.declared.address.Backend.{Backend}
use Rattle.ovn_base.specs.declared.name.Name.{Name}
use Rattle.nb_records.specs.Grammar.{IsBackend}
use Rattle.edit_reader.specs.Grammars.{spelled_backend, spelled_port}
use Rattle.switch_engine.specs.declared.effect.NetEffect.{NetEffect}
use Rattle.switch_engine.specs.declared.effect.NetEffect.TheVariants as effect

-- What was picked: the tunnel key of a datapath, or of a port; on a datapath, for a new connection to a virtual address,
-- the backend; on a router, for a new connection, the source port.
pub data Pick : Type 0 where
  datapath_key : Name → ℕ → Pick
  port_key : Name → ℕ → Pick
  vip_backend : Name → Backend → Backend → Pick
  source_port : Name → ℕ → Pick

-- the words of a line, which is cut at each space
abbrev pub words_in : List ℕ → List (List ℕ)
words_in line = slice_split (λ b. b == 32) line

-- the word is this one
abbrev pub is_word : List ℕ → List ℕ → Bool
is_word word other = pointwise nat_eq word other

-- one decimal digit or more, and nothing else
abbrev pub is_number : List ℕ → Bool
is_number word = nat_lt 0 (length word) && all_ascii_digits word

-- the key that was picked for a datapath or a port of this name
abbrev pub key_of : List ℕ → List ℕ → ℕ → List Pick
key_of kind name key = if is_word kind (codes "datapath") then datapath_key name key ∷ [] else (if is_word kind (codes "port") then port_key name key ∷ [] else [])

-- the backend that was picked for a virtual address, where both words spell one
abbrev pub backend_for : List ℕ → Option Backend → Option Backend → List Pick
backend_for datapath (Some vip) (Some backend) = vip_backend datapath vip backend ∷ []
backend_for datapath _ _ = []

-- the source port that was picked, where the word spells one
abbrev pub port_for : List ℕ → Option ℕ → List Pick
port_for router (Some port) = source_port router port ∷ []
port_for router None = []

-- the pick of `key datapath NAME K` and `key port NAME K`
abbrev pub key_pick : List ℕ → List ℕ → List ℕ → List Pick
key_pick kind name key = if is_number key then key_of kind name (digits_value 10 key) else []

-- the pick of `pick port ROUTER PORT`
abbrev pub port_pick : List ℕ → List ℕ → List ℕ → List Pick
port_pick kind router port = if is_word kind (codes "port") then port_for router (spelled_port port) else []

-- the pick of `pick backend DATAPATH IP:PORT IP:PORT`
abbrev pub backend_pick : List ℕ → List ℕ → List ℕ → List ℕ → List Pick
backend_pick kind datapath vip backend = if is_word kind (codes "backend") then backend_for datapath (spelled_backend vip) (spelled_backend backend) else []

-- the pick that the words name which stand behind the number of the event; all but these name nothing
abbrev pub told_by : List (List ℕ) → List Pick
told_by (what ∷ kind ∷ name ∷ value ∷ []) = if is_word what (codes "key") then key_pick kind name value else (if is_word what (codes "pick") then port_pick kind name value else [])
told_by (what ∷ kind ∷ name ∷ vip ∷ backend ∷ []) = if is_word what (codes "pick") then backend_pick kind name vip backend else []
told_by words = []

-- the pick that the words of a line name
abbrev pub named_by : List (List ℕ) → List Pick
named_by [] = []
named_by (number ∷ words) = if is_number number then told_by words else []

-- the picks that a text names, read off its bytes: those of its lines, in order
abbrev pub picks_in : List ℕ → List Pick
picks_in text = flat_map (λ line. named_by (words_in line)) (ended_lines text)

-- the picks that effects name, in order
abbrev pub picks_of : List NetEffect → List Pick
picks_of [] = []
picks_of (effect.DatapathKey name key ∷ effects) = datapath_key name key ∷ picks_of effects
picks_of (effect.PortKey name key ∷ effects) = port_key name key ∷ picks_of effects
picks_of (effect.PickBackend datapath vip backend ∷ effects) = vip_backend datapath vip backend ∷ picks_of effects
picks_of (effect.PickPort router port ∷ effects) = source_port router port ∷ picks_of effects
picks_of (effect.Tunnel frame from to bytes ∷ effects) = picks_of effects
picks_of (effect.Out port packet ∷ effects) = picks_of effects
picks_of (effect.Drop datapath port cause ∷ effects) = picks_of effects
picks_of (effect.Lost frame ∷ effects) = picks_of effects

-- the names in the effect are names, a key has at most 64 bits, addresses 32, and a port is one of 1 to 65,535
abbrev pub IsNamedEffect : NetEffect → Type 0
IsNamedEffect (effect.DatapathKey name key) = IsName name × (key < 2 ^ 64)
IsNamedEffect (effect.PortKey name key) = IsName name × (key < 2 ^ 64)
IsNamedEffect (effect.PickBackend datapath vip backend) = IsName datapath × IsBackend vip × IsBackend backend
IsNamedEffect (effect.PickPort router port) = IsName router × (1 ≤ port) × (port ≤ 65535)
IsNamedEffect (effect.Tunnel frame from to bytes) = IsName from × IsName to
IsNamedEffect (effect.Out port packet) = IsName port
IsNamedEffect (effect.Drop datapath port cause) = IsName datapath × IsName port
IsNamedEffect (effect.Lost frame) = Unit {0}

abbrev pub AreNamed : List NetEffect → Type 0
AreNamed effects = AllByRecursion IsNamedEffect effects

-- the text is made of whole lines: it is empty, or a line feed ends it
abbrev pub AreWholeLines : List ℕ → Type 0
AreWholeLines text = (text ≡ []) ⊎ ((front : List ℕ) × (text ≡ front ++ codes "\n"))
