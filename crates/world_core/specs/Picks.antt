-- Runs of the logical network, with the keys that were picked.
use Rattle.std.specs.Prelude.{◌≡◌, ◌+◌, ◌++◌, List, [], ◌∷◌, Some, None}
use Rattle.edit_reader.specs.declared.event.Event.{Event}
use Rattle.event_lines.specs.declared.refusal.Refusal.{Refusal}
use Rattle.event_lines.specs.Picks.{Pick, picks_of}
use Rattle.switch_engine.specs.declared.effect.NetEffect.{NetEffect}
use Rattle.world_setup.specs.Refusing.{refusal}
use Rattle.net_model.specs.State.{State}
use Rattle.world_setup.specs.Step.{NetworkStep}

-- what became of an event
pub data Fate : Type 0 where
  was_refused : Refusal → Fate
  was_accepted : List NetEffect → Fate

-- The event is taken with these picks: it is refused for the first cause that holds, and then only counts, and nothing
-- is picked; or it is a step of the network, and the picks are those that its effects name.
pub data Happens (m : State) (event : Event) (picks : List Pick) (fate : Fate) (after : State) : Type 0 where
  refuses : (why : Refusal) → refusal m event ≡ Some why → picks ≡ [] → fate ≡ was_refused why → after ≡ record m { refused = m.refused + 1 } → Happens m event picks fate after
  accepts : (effects : List NetEffect) → refusal m event ≡ None → NetworkStep m event effects after → picks ≡ picks_of effects → fate ≡ was_accepted effects → Happens m event picks fate after

-- the first of some events is taken with the first of the picks, and the others with those that are left
pub record HappensFirst (m : State) (event : Event) (picks : List Pick) (fates : List Fate) (Others : State → List Pick → List Fate → Type 0) : Type 0 where
  pub mid : State
  pub own : List Pick
  pub left : List Pick
  pub fate : Fate
  pub others : List Fate
  pub picked : picks ≡ own ++ left
  pub all : fates ≡ fate ∷ others
  pub happens : Happens m event own fate mid
  pub after : Others mid left others

-- a run of the logical network: the events are taken in their order, and use up the picks
abbrev pub Run : State → List Event → List Pick → List Fate → State → Type 0
Run m [] picks fates last = (picks ≡ []) × (fates ≡ []) × (last ≡ m)
Run m (event ∷ events) picks fates last = HappensFirst m event picks fates (λ mid left others. Run mid events left others last)
