-- Moves of packets in a state of the network, one after another.
use Rattle.std.specs.Prelude.{◌≡◌, ◌⊎◌, ◌+◌, ◌++◌, ℕ, zero, suc, true, false, List, [], ◌∷◌, length}
use Rattle.conn_table.specs.Picks.{Choice}
use Rattle.net_model.specs.Journey.{Journey, Traffic, arrive_one, travel, places_of}
use Rattle.net_model.specs.State.{State}
use Rattle.net_model.specs.Trail.{End, choices_in, crossings_in}
use Rattle.net_model.specs.declared.crossing.Crossing.{Crossing}

-- a journey in the state, with these choices to make and these ends so far, on which all choices were legal
abbrev pub journey_in : State → List Choice → List End → Journey
journey_in m choices ends = record { trail = record { lists = m.lists; choices = choices; legal = true; ends = ends }; waiting = m.waiting; next = m.next }

-- The move takes packets to these ends, and leaves this state. It makes just the choices of which the ends tell, all of them legal: with these in front,
-- whatever choices follow, and whatever ended before, it comes to the same.
pub record Moves (move : Journey → Journey) (m : State) (ends : List End) (after : State) : Type 0 where
  pub is : (choices : List Choice) (before : List End) → move (journey_in m (choices_in ends ++ choices) before) ≡ journey_in after choices (before ++ ends)
  -- each crossing among the ends gets a number, and nothing else of the state changes
  pub rest : after ≡ record m { lists = after.lists; waiting = after.waiting; next = m.next + length (crossings_in ends) }

-- what an event asks of packets takes them to these ends
abbrev pub MovesFor : Traffic → State → List End → State → Type 0
MovesFor traffic m ends after = Moves (travel (places_of m) traffic) m ends after

-- the crossing of the lowest number arrives, and then the others do
pub record MovesFirst (m : State) (ends : List End) (Others : State → List End → Type 0) : Type 0 where
  pub n : ℕ
  pub crossing : Crossing
  pub behind : List (ℕ × Crossing)
  pub first : m.waiting ≡ (n, crossing) ∷ behind
  pub own : List End
  pub more : List End
  pub all : ends ≡ own ++ more
  pub mid : State
  pub arrives : MovesFor (arrive_one n false) m own mid
  pub others : Others mid more

-- the lowest crossing arrives again and again, to these ends, until none waits or so many arrived
abbrev pub AreMoved : ℕ → State → List End → State → Type 0
AreMoved zero m ends after = (ends ≡ []) × (after ≡ m)
AreMoved (suc k) m ends after = ((m.waiting ≡ []) × (ends ≡ []) × (after ≡ m)) ⊎ MovesFirst m ends (λ mid more. AreMoved k mid more after)
