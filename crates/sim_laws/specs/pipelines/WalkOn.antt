-- How whatever walk takes some copies on.
use Rattle.std.specs.Prelude.{◌≡◌, ℕ, List, ◌++◌}
use Rattle.flow_table.specs.declared.flow.Flow.{Flow}
use Rattle.switch_engine.specs.Outcome.{Choosing}
use Rattle.switch_engine.specs.Walk.{IsWalk}
use Rattle.switch_engine.specs.Zones.{ZoneLists}
use Rattle.switch_engine.specs.declared.carried.Carried.{Carried}
use Rattle.switch_engine.specs.declared.effect.Effect.{Effect}
use Rattle.switch_engine.specs.declared.effect.Entry.{Entry}
use Rattle.switch_engine.specs.declared.walk.Step.{Step}

-- by what walks go: the choices that may be made, the flows, how the packet came in, and the time
pub record Course : Type 0 where
  pub by : Choosing
  pub flows : List Flow
  pub entry : Entry
  pub now : ℕ

abbrev pub Walks : Course → ZoneLists → List Carried → List Step → List Effect → ZoneLists → Type 0
Walks c zones copies steps effects last = IsWalk c.by c.flows c.entry c.now zones copies steps effects last

-- what a walk has told so far, the zones then, and the copies that are left of those with which it began
abbrev pub Reached : Type 1
Reached = List Effect → ZoneLists → List Carried → Type 0

-- a walk to its end, taken apart: first it comes so far, and then it goes on with the copies that are left and the others
pub record Parts (c : Course) (others : List Carried) (all : List Effect) (last : ZoneLists) (So : Reached) : Type 0 where
  pub told : List Effect
  pub zones : ZoneLists
  pub copies : List Carried
  pub so : So told zones copies
  pub steps : List Step
  pub more : List Effect
  pub walk : Walks c zones (copies ++ others) steps more last
  pub effects : all ≡ told ++ more

-- Whatever walk takes the copies on from these zones, and whatever others wait behind them, it comes so far first. Which choices it makes on
-- the way is told by its effects.
pub record Comes (c : Course) (zones : ZoneLists) (copies : List Carried) (So : Reached) : Type 0 where
  pub each : (others : List Carried) (steps : List Step) (all : List Effect) (last : ZoneLists) → Walks c zones (copies ++ others) steps all last → Parts c others all last So
