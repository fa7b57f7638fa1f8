-- What is written for an input, and the status.
use Rattle.std.specs.Prelude.{◌≡◌, ◌<◌, ◌+◌, ◌++◌, ◌-◌, ℕ, Bool, List, [], ◌∷◌, length, Option, nat_lt, if◌then◌else◌}
use Rattle.std.specs.Io.KnownBytes.{append_known}
use Rattle.ovn_base.specs.declared.limits.TheConstants.{MAX_INPUT}
use Rattle.ovn_base.specs.lines.Lines.{lines_within}
use Rattle.event_lines.specs.Lines.{end_line}
use Rattle.event_lines.specs.Picks.{picks_in}
use Rattle.world_core.specs.WorldView.{WorldView}
use Rattle.net_model.specs.State.{event_count}
use Rattle.ovnsim.specs.Runs.{RunsLines}

-- the lines of an input: of 2^40 bytes or more, those that end within the first 2^40
abbrev pub lines_in : List ℕ → List (List ℕ)
lines_in input = lines_within MAX_INPUT input

-- the last line, for the world that the events left
abbrev pub end_of : WorldView → List ℕ
end_of last = end_line (event_count last.state) last.state.accepted last.state.refused (length last.state.waiting)

-- an event was refused
abbrev pub is_refusing : WorldView → Bool
is_refusing last = nat_lt 0 last.state.refused

-- the last line, where the input has an end
abbrev pub end_within : List ℕ → WorldView → List ℕ
end_within input last = if nat_lt (length input) MAX_INPUT then end_of last else []

-- what comes after the texts where these lines are left: the last line where none is
abbrev pub then_last : List (List ℕ) → List ℕ → WorldView → List ℕ
then_last [] input last = end_within input last
then_last (line ∷ lines) input last = []

-- how a run ends that nothing stops
abbrev pub status_of : List ℕ → WorldView → ℕ
status_of input last = if nat_lt (length input) MAX_INPUT then (if is_refusing last then 3 else 0) else 8

-- The answer to an input: what was written is the texts of its events in a run from the empty world, and then the last
-- line. What is picked in the run is what the written lines name.
pub record Answers (status : ℕ) (before after : Option (List ℕ)) (input : List ℕ) : Type 0 where
  pub written : List ℕ
  pub gone : after ≡ append_known before written
  pub text : List ℕ
  pub last : WorldView
  pub run : RunsLines (lines_in input) (picks_in written) text last
  pub whole : written ≡ text ++ end_within input last
  pub status_is : status ≡ status_of input last

-- the sink gained the whole texts of the events of some first lines
pub record GainsEvents (before after : Option (List ℕ)) (input : List ℕ) : Type 0 where
  pub done : List (List ℕ)
  pub rest : List (List ℕ)
  pub text : List ℕ
  pub last : WorldView
  pub all : lines_in input ≡ done ++ rest
  pub run : RunsLines done (picks_in text) text last
  pub gone : after ≡ append_known before text

-- The sink gained some first bytes: of the texts of the events of some first lines, or, where these are all and the
-- input has an end, of these texts and the last line.
pub record GainsFront (before after : Option (List ℕ)) (input : List ℕ) : Type 0 where
  pub done : List (List ℕ)
  pub rest : List (List ℕ)
  pub text : List ℕ
  pub last : WorldView
  pub all : lines_in input ≡ done ++ rest
  pub run : RunsLines done (picks_in text) text last
  pub front : List ℕ
  pub more : List ℕ
  pub cut : text ++ then_last rest input last ≡ front ++ more
  pub gone : after ≡ append_known before front

-- fewer than 2^40 bytes of the input were taken, `left` were not, and the sink gained the texts of the events whose line
-- ended within those that were
pub record GainsRead (before after : Option (List ℕ)) (input left : List ℕ) : Type 0 where
  pub taken : length input < MAX_INPUT + length left
  pub text : List ℕ
  pub last : WorldView
  pub run : RunsLines (lines_within (length input - length left) input) (picks_in text) text last
  pub gone : after ≡ append_known before text

-- exactly 2^40 bytes of the input were taken, `left` were not, and the sink gained the texts of its events
pub record GainsToLimit (before after : Option (List ℕ)) (input left : List ℕ) : Type 0 where
  pub taken : length input ≡ MAX_INPUT + length left
  pub text : List ℕ
  pub last : WorldView
  pub run : RunsLines (lines_in input) (picks_in text) text last
  pub gone : after ≡ append_known before text

-- the input ended, and the sink gained the texts of its events and the last line
pub record GainsWhole (refused : Bool) (before after : Option (List ℕ)) (input : List ℕ) : Type 0 where
  pub short : length input < MAX_INPUT
  pub text : List ℕ
  pub last : WorldView
  pub run : RunsLines (lines_in input) (picks_in text) text last
  pub refused_is : refused ≡ is_refusing last
  pub gone : after ≡ append_known before (text ++ end_of last)

-- the input ended, and the sink gained the texts of its events, which left this world
pub record GainsTexts (before after : Option (List ℕ)) (last : WorldView) (input : List ℕ) : Type 0 where
  pub short : length input < MAX_INPUT
  pub text : List ℕ
  pub run : RunsLines (lines_in input) (picks_in text) text last
  pub gone : after ≡ append_known before text
