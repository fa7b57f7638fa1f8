-- Runs of the network.
use Rattle.std.specs.Prelude.{◌≡◌, ◌+◌, ◌++◌, ℕ, List, [], ◌∷◌}
use Rattle.edit_reader.specs.declared.event.Event.{Event}
use Rattle.event_lines.specs.Lines.{accepted_lines, refused_line}
use Rattle.event_lines.specs.Picks.{Pick, picks_of}
use Rattle.event_lines.specs.declared.refusal.Refusal.{Refusal}
use Rattle.switch_engine.specs.Outcome.{any_legal}
use Rattle.world_core.specs.Outcome.{IsAcceptedBy, IsRefused}
use Rattle.world_core.specs.StepParts.{new_world}
use Rattle.world_core.specs.Picks.{Fate, was_refused, was_accepted}
use Rattle.world_core.specs.WorldView.{WorldView, IsSound}
use Rattle.ovnsim.specs.Events.{AreEvents}

-- one event with its text and what was picked for it: accepted, with any legal choices, and its effects name what was picked; or refused, and nothing was picked
pub data Takes (old : WorldView) (event : Event) (picks : List Pick) (text : List ℕ) (new : WorldView) : Type 0 where
  accepts : (accepted : IsAcceptedBy any_legal old event [] text new) → picks ≡ picks_of accepted.effects → Takes old event picks text new
  refuses : (why : Refusal) → IsRefused old event why [] text new → picks ≡ [] → Takes old event picks text new

-- The first of some events with the first of the picks, and the others after it with those that are left. After the
-- event the world is sound: each chassis holds exactly the flows of the records.
pub record TakesFirst (old : WorldView) (event : Event) (picks : List Pick) (text : List ℕ) (Others : WorldView → List Pick → List ℕ → Type 0) : Type 0 where
  pub mid : WorldView
  pub own : List Pick
  pub left : List Pick
  pub first : List ℕ
  pub rest : List ℕ
  pub picked : picks ≡ own ++ left
  pub whole : text ≡ first ++ rest
  pub takes : Takes old event own first mid
  pub sound : IsSound mid
  pub others : Others mid left rest

-- the events were taken in their order with these picks and this text, and left the world as the last one
abbrev pub Runs : WorldView → List Event → List Pick → List ℕ → WorldView → Type 0
Runs old [] picks text last = (picks ≡ []) × (text ≡ []) × (last ≡ old)
Runs old (event ∷ events) picks text last = TakesFirst old event picks text (λ mid left rest. Runs mid events left rest last)

-- the events of the lines were taken with these picks in a run from the empty world
pub record RunsLines (lines : List (List ℕ)) (picks : List Pick) (text : List ℕ) (last : WorldView) : Type 0 where
  pub events : List Event
  pub are : AreEvents lines events
  pub run : Runs new_world events picks text last

-- the lines of what became of the event of this number: an accepted one also tells how many flows were matched
abbrev pub IsTextOf : ℕ → Fate → List ℕ → Type 0
IsTextOf n (was_refused why) text = text ≡ refused_line n why
IsTextOf n (was_accepted effects) text = (walks : ℕ) × (text ≡ accepted_lines n effects walks)

-- the lines of the first, and then those of the others
pub record HasText (n : ℕ) (fate : Fate) (text : List ℕ) (Others : List ℕ → Type 0) : Type 0 where
  pub first : List ℕ
  pub rest : List ℕ
  pub whole : text ≡ first ++ rest
  pub is : IsTextOf n fate first
  pub others : Others rest

-- the text is the lines of what became of the events, which are numbered from this number on
abbrev pub AreTexts : ℕ → List Fate → List ℕ → Type 0
AreTexts n [] text = text ≡ []
AreTexts n (fate ∷ fates) text = HasText n fate text (λ rest. AreTexts (n + 1) fates rest)
