-- What one event leaves.
use Rattle.std.specs.Prelude.{◌≡◌, ◌+◌, ◌++◌, ℕ, Bool, List, Option, cond}
use Rattle.std.specs.Io.KnownBytes.{append_known}
use Rattle.edit_reader.specs.declared.event.Event.{Event}
use Rattle.event_lines.specs.Picks.{Pick}
use Rattle.world_core.specs.WorldView.{WorldView, IsSound}
use Rattle.ovnsim.specs.Runs.{Takes}

-- the event was taken, with its text and what was picked for it, and it is counted
pub record TakesWith (is_accepted : Bool) (old : WorldView) (event : Event) (text : List ℕ) (new : WorldView) : Type 0 where
  pub picks : List Pick
  pub takes : Takes old event picks text new
  pub sound : IsSound new
  pub accepted : new.state.accepted ≡ old.state.accepted + cond is_accepted 1 0
  pub refused : new.state.refused ≡ old.state.refused + cond is_accepted 0 1

-- the sink gained some first bytes of the piece
abbrev pub WasCut : List ℕ → Option (List ℕ) → Option (List ℕ) → Type 0
WasCut piece before after = (front : List ℕ) × (more : List ℕ) × (piece ≡ front ++ more) × (after ≡ append_known before front)

-- the event was taken, and the sink gained its text
pub record GainsText (is_accepted : Bool) (old : WorldView) (event : Event) (before after : Option (List ℕ)) (new : WorldView) : Type 0 where
  pub text : List ℕ
  pub taken : TakesWith is_accepted old event text new
  pub gone : after ≡ append_known before text

-- the event was taken, and the sink gained some first bytes of its text
pub record GainsCut (old : WorldView) (event : Event) (before after : Option (List ℕ)) : Type 0 where
  pub is_accepted : Bool
  pub new : WorldView
  pub text : List ℕ
  pub taken : TakesWith is_accepted old event text new
  pub cut : WasCut text before after
