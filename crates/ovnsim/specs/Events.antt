-- The events of an input.
use Rattle.std.specs.Prelude.{◌≡◌, ◌≤◌, ◌==◌, ◌||◌, ◌⊎◌, ℕ, Bool, List, [], ◌∷◌, length, nat_lt, if◌then◌else◌, Ok, Err}
use Rattle.std.specs.List.{AllPass}
use Rattle.ovn_base.specs.declared.limits.TheConstants.{MAX_LINE}
use Rattle.ovn_base.specs.lines.Reading.{Reading, Gives, GivesLine}
use Rattle.ovn_base.specs.declared.next_line.Line.TheVariants as line
use Rattle.edit_reader.specs.Events.{reading_of}
use Rattle.edit_reader.specs.Outcomes.{Read}
use Rattle.edit_reader.specs.declared.event.Event.{Event}
use Rattle.edit_reader.specs.declared.event.Event.TheVariants.{Unread}
use Rattle.edit_reader.specs.declared.event.ReadRefusal.TheVariants.{TooLong}
use Rattle.ovnsim.specs.declared.next_event.Next.{Next}
use Rattle.ovnsim.specs.declared.next_event.Next.TheVariants.{Found, Blank, End}

-- a space, a tab or a carriage return
abbrev pub is_line_blank : ℕ → Bool
is_line_blank b = b == 32 || b == 9 || b == 13

-- the line has blanks alone, and no more than a line may have: it is passed over
pub record IsPassedOver (line : List ℕ) : Type 0 where
  pub short : length line ≤ MAX_LINE
  pub blank : AllPass is_line_blank line

-- an event that is read, or the first fault of its line
abbrev pub read_as : Read Event → Event
read_as (Ok event) = event
read_as (Err fault) = Unread fault

-- what a line asks for: one of over 1,048,576 bytes is too long, whatever its bytes
abbrev pub asked_by : List ℕ → Event
asked_by line = if nat_lt MAX_LINE (length line) then Unread TooLong else read_as (reading_of line)

-- what is asked for by a line that isn't passed over
pub record AsksFor (line : List ℕ) (event : Event) : Type 0 where
  pub not_passed : ¬ IsPassedOver line
  pub asked : event ≡ asked_by line

-- the line is the first event's, and the others are those of the lines after it
pub record HasFirst (line : List ℕ) (events : List Event) (Others : List Event → Type 0) : Type 0 where
  pub first : Event
  pub others : List Event
  pub all : events ≡ first ∷ others
  pub asks : AsksFor line first
  pub after : Others others

-- the events of these lines, in order
abbrev pub AreEvents : List (List ℕ) → List Event → Type 0
AreEvents [] events = events ≡ []
AreEvents (line ∷ lines) events = (IsPassedOver line × AreEvents lines events) ⊎ HasFirst line events (AreEvents lines)

-- what a line of the input is
abbrev pub AskedBy : List ℕ → Next → Type 0
AskedBy line (Found event) = AsksFor line event
AskedBy line Blank = IsPassedOver line
AskedBy line End = ⊥

-- what a call gave of the unread bytes
abbrev pub GivesNext : Next → Reading → Reading → List ℕ → List ℕ → Type 0
GivesNext (Found event) old new before after = (line : List ℕ) × GivesLine line old new before after × AsksFor line event
GivesNext Blank old new before after = (line : List ℕ) × GivesLine line old new before after × IsPassedOver line
GivesNext End old new before after = Gives line.End old new before after
