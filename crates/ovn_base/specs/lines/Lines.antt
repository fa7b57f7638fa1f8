-- The lines of an input.
use Rattle.std.specs.Prelude.{ℕ, List, [], ◌∷◌, ◌==◌, ◌≢◌, if◌then◌else◌, nat_lt, length, take, All}

-- a byte before the first of these lines, or the only byte of a line of its own where there is none
abbrev pub onto_first : ℕ → List (List ℕ) → List (List ℕ)
onto_first b [] = (b ∷ []) ∷ []
onto_first b (l ∷ ls) = (b ∷ l) ∷ ls

-- the same, where a line counts only once it is ended
abbrev pub onto_ended : ℕ → List (List ℕ) → List (List ℕ)
onto_ended b [] = []
onto_ended b (l ∷ ls) = (b ∷ l) ∷ ls

-- the lines of the bytes: each ends at a line feed, and a last one without it counts where it isn't empty
abbrev pub lines_of : List ℕ → List (List ℕ)
lines_of [] = []
lines_of (b ∷ bs) = if b == 10 then [] ∷ lines_of bs else onto_first b (lines_of bs)

-- the lines that a line feed ends
abbrev pub ended_lines : List ℕ → List (List ℕ)
ended_lines [] = []
ended_lines (b ∷ bs) = if b == 10 then [] ∷ ended_lines bs else onto_ended b (ended_lines bs)

-- The lines of bytes of which at most n - 1 may come before the end: with n bytes or more, those alone count
-- that a line feed ends within the first n.
abbrev pub lines_within : ℕ → List ℕ → List (List ℕ)
lines_within n bytes = if nat_lt (length bytes) n then lines_of bytes else ended_lines (take n bytes)

-- no line feed is among the bytes
abbrev pub HasNoFeed : List ℕ → Type 0
HasNoFeed bytes = All (λ b. b ≢ 10) bytes
