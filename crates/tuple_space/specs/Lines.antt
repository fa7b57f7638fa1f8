-- Flows in order, of which the first stands apart.
use Rattle.std.specs.Prelude.{ℕ, Bool, false, ◌+◌, ◌-◌, Option, Some, None, List, ◌∷◌, length}
use Rattle.flow_table.specs.declared.flow.Flow.{Flow}

-- flows, and for how many more there is room
pub record Flows : Type 0 where
  pub flows : List Flow
  pub room : ℕ

-- the flows, with the first of them
abbrev pub in_line : Option Flow → List Flow → List Flow
in_line None rest = rest
in_line (Some first) rest = first ∷ rest

-- for how many flows more there is room, where so many fit behind the first
abbrev pub line_room : Option Flow → List Flow → ℕ → ℕ
line_room None rest capacity = capacity - length rest + 1
line_room (Some first) rest capacity = capacity - length rest

-- there is a first, and it passes the test
abbrev pub passes_first : (Flow → Bool) → Option Flow → Bool
passes_first test None = false
passes_first test (Some first) = test first
