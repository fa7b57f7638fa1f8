-- In which order the masks of a table are asked.
use Rattle.std.specs.Prelude.{◌≡◌, ◌<◌, ◌≤◌, ◌⊎◌, ℕ, List, [], map, nat_eq, Vec}
use Rattle.std.specs.declared.alloc.Global.{Global}
use Rattle.std.specs.Map.{lookup}
use Rattle.std.specs.Option.{option_map_or}
use Rattle.ovn_base.specs.lists.Among.{Among}
use Rattle.tuple_space.specs.declared.turn.Turn.{Turn}
use Rattle.tuple_space.specs.Ranked.{IsRanked}

-- the turn's bound is at least this priority with this rank
abbrev pub IsUnder : ℕ → ℕ → Turn → Type 0
IsUnder priority rank turn = (priority < turn.priority) ⊎ ((priority ≡ turn.priority) × (rank ≤ turn.rank))

-- no turn has a greater bound than one that stands before it
abbrev pub IsByBound : List Turn → Type 0
IsByBound ts = IsRanked (λ t u. IsUnder u.priority u.rank t) ts

-- the mask of this number has a turn, whose bound is at least this
abbrev pub HasTurn : List Turn → ℕ → ℕ → ℕ → Type 0
HasTurn turns number priority rank = (t : Turn) × Among t turns × (t.number ≡ number) × IsUnder priority rank t

-- the turns of a table
abbrev pub turns_of : List (ℕ × List Turn) → ℕ → List Turn
turns_of tables table = option_map_or (λ ts. ts) (lookup (nat_eq table) tables) []

-- the turns of a map of tables
abbrev pub tables_of : List (ℕ × Vec Turn Global) → List (ℕ × List Turn)
tables_of es = map {B = ℕ × List Turn} (λ e. (e.0, e.1.items)) es

-- the turns of each table are in order
abbrev pub AreByBound : List (ℕ × List Turn) → Type 0
AreByBound tables = (table : ℕ) → IsByBound (turns_of tables table)
