-- What an action does: the words of it.
use Rattle.std.specs.Prelude.{Bool, true, List, [], ◌∷◌}
use Rattle.conn_table.specs.Picks.{Choice}
use Rattle.flow_table.specs.declared.flow.Cause.{Cause}
use Rattle.switch_engine.specs.declared.actions.Turn.{Turn}
use Rattle.switch_engine.specs.declared.actions.Turn.TheVariants.{Next, Leaves, Ends}
use Rattle.switch_engine.specs.declared.carried.Carried.{Carried}
use Rattle.switch_engine.specs.declared.effect.Effect.{Effect}
use Rattle.switch_engine.specs.Actions.{drop_at}
use Rattle.switch_engine.specs.Zones.{ZoneLists}

-- a copy between two actions: it, the zones, and the choices that are still to be made
pub record Doing : Type 0 where
  pub copy : Carried
  pub zones : ZoneLists
  pub choices : List Choice

-- what an action does: whether the next one follows, how it leaves things, its effects, the copies that it makes, and of the choices that it
-- makes whether they are legal, and whether they are those of the program
pub record Act : Type 0 where
  pub turn : Turn
  pub after : Doing
  pub effects : List Effect
  pub made : List Carried
  pub legal : Bool
  pub own : Bool

abbrev pub turns : Turn → Doing → Act
turns turn d = record { turn = turn; after = d; effects = []; made = []; legal = true; own = true }

-- the next action follows
abbrev pub goes_next : Doing → Act
goes_next d = turns Next d

abbrev pub tells : Effect → Act → Act
tells e a = record a { effects = e ∷ a.effects }

-- the copy ends
abbrev pub drops : Cause → Doing → Act
drops cause d = tells (drop_at d.copy.table cause d.copy.regs) (turns Ends d)
