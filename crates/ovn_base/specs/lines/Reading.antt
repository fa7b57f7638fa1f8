-- What a buffer of lines is seen as, and what a call on it gives.
use Rattle.std.specs.Prelude.{ℕ, ◌≡◌, ◌+◌, ◌<◌, ◌≤◌, List, [], ◌∷◌, length, Bool, true, if◌then◌else◌, Option, option_map}
use Rattle.std.specs.Io.KnownBytes.{prepend_known}
use Rattle.ovn_base.specs.lines.Lines.{lines_within}
use Rattle.ovn_base.specs.declared.limits.TheConstants.{MAX_LINE, MAX_INPUT}
use Rattle.ovn_base.specs.declared.next_line.Line.{Line}
use Rattle.ovn_base.specs.declared.next_line.Line.TheVariants.{Text, TooLong, End}

-- how far an input was read through a buffer of lines
pub record Reading : Type 0 where
  -- how many bytes were given, line feeds among them
  pub given : ℕ
  -- the line that was given last
  pub text : List ℕ
  -- the bytes that were taken and not given
  pub held : List ℕ
  -- a `take` has answered 0
  pub ended : Bool
  -- a call has answered a fault
  pub faulted : Bool

-- how many bytes were taken
abbrev pub bytes_taken : Reading → ℕ
bytes_taken m = m.given + length m.held

-- the bytes that are still to be taken: none once the end was seen
abbrev pub rest_of : Bool → Option (List ℕ) → Option (List ℕ)
rest_of ended left = if ended then option_map (λ _. []) left else left

-- the bytes that are not given yet, where they are told
abbrev pub unread : Reading → Option (List ℕ) → Option (List ℕ)
unread m left = prepend_known m.held (rest_of m.ended left)

-- Of the unread bytes, the line was the first. This holds for each limit n on them, of which r is left.
pub record GivesLine (line : List ℕ) (old new : Reading) (before after : List ℕ) : Type 0 where
  pub lines : (r n : ℕ) → n + old.given ≡ r + new.given → (new.ended ≡ true → 0 < r) → lines_within n before ≡ line ∷ lines_within r after
  pub count : old.given + length before ≡ new.given + length after

-- what a call gave of the unread bytes
abbrev pub Gives : Line → Reading → Reading → List ℕ → List ℕ → Type 0
Gives Text old new before after = GivesLine new.text old new before after
Gives TooLong old new before after = (line : List ℕ) × GivesLine line old new before after × (MAX_LINE < length line)
Gives End old new before after = (before ≡ []) × (after ≡ []) × (new.given ≡ old.given) × (new.ended ≡ true) × (new.given < MAX_INPUT)

-- A call stopped, and the bytes that were taken by then have no line that is ended; `left` is what was not taken.
pub record Stops (old new : Reading) (before left : List ℕ) : Type 0 where
  pub later : old.given ≤ bytes_taken new
  pub none : (n : ℕ) → n + old.given ≡ bytes_taken new → lines_within n before ≡ []
  pub count : old.given + length before ≡ bytes_taken new + length left
