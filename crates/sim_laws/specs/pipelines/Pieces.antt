-- What the network makes of a packet in a piece of its way, and what a walk does with the copy.
use Rattle.std.specs.Prelude.{◌≡◌, ◌++◌, true, List, [], ◌∷◌}
use Rattle.std.specs.List.{AllZip}
use Rattle.conn_table.specs.Picks.{Choice}
use Rattle.net_model.specs.Trail.{Trail, Lists, End}
use Rattle.switch_engine.specs.Outcome.{picks_in}
use Rattle.switch_engine.specs.Zones.{ZoneLists}
use Rattle.switch_engine.specs.declared.carried.Carried.{Carried}
use Rattle.switch_engine.specs.declared.effect.Effect.{Effect}
use Rattle.sim_laws.specs.Naming.{IsNumbered}
use Rattle.sim_laws.specs.pipelines.HeldLists.{HoldLists}
use Rattle.sim_laws.specs.pipelines.Standing.{Chassis}

-- a piece of the way, given how the rest of it goes on from what the piece comes to
abbrev pub Piece : Type 0 → Type 0
Piece X = (Trail → X → Trail) → Trail → Trail

-- a trail on which all choices so far were legal
abbrev pub trail_with : Lists → List Choice → List End → Trail
trail_with lists choices ends = record { lists = lists; choices = choices; legal = true; ends = ends }

-- after a piece the packet goes on, or it has ended
pub data Landing (X : Type 0) : Type 0 where
  goes_on : Lists → X → Landing X
  has_ended : Lists → Landing X

abbrev pub landed : {X : Type 0} → Landing X → (Trail → X → Trail) → List Choice → List End → Trail
landed (goes_on lists x) rest choices ends = rest (trail_with lists choices ends) x
landed (has_ended lists) rest choices ends = trail_with lists choices ends

-- what is then left of the copy: one copy, or none
abbrev pub LandsAs : {X : Type 0} → Chassis → (Lists → X → ZoneLists → Carried → Type 0) → Landing X → ZoneLists → List Carried → Type 0
LandsAs s Goes (goes_on lists x) zones copies = (copy : Carried) × (copies ≡ copy ∷ []) × Goes lists x zones copy
LandsAs s Goes (has_ended lists) zones copies = (copies ≡ []) × HoldLists s.number zones lists

-- The walk has told what becomes of the packet in the piece, and has made the piece's choices: with these in front, whatever choices and
-- rest of the way follow, and whatever ended before, the piece comes to the same as the copy.
pub record ComesTo {X : Type 0} (s : Chassis) (piece : Piece X) (lists : Lists) (Goes : Lists → X → ZoneLists → Carried → Type 0)
    (told : List Effect) (zones : ZoneLists) (copies : List Carried) : Type 0 where
  pub own : List End
  pub numbered : AllZip (IsNumbered s.keys) own told
  pub landing : Landing X
  pub is : (rest : Trail → X → Trail) (choices : List Choice) (ends : List End) → piece rest (trail_with lists (picks_in told ++ choices) ends) ≡ landed landing rest choices (ends ++ own)
  pub lands : LandsAs s Goes landing zones copies
