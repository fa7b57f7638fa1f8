-- One step of a walk.
use Rattle.std.specs.Prelude.{◌≡◌, ◌<◌, ◌≤◌, ◌^◌, ◌++◌, ℕ, true, List, [], ◌∷◌, Option, option_to_list}
use Rattle.std.specs.List.{AllByRecursion}
use Rattle.ovn_base.specs.declared.limits.TheConstants.{MAX_HOPS}
use Rattle.inet_packet.specs.Whole.{IsWhole}
use Rattle.conn_table.specs.Picks.{Choice}
use Rattle.flow_table.specs.declared.flow.Flow.{Flow}
use Rattle.flow_table.specs.declared.flow.FlowOp.{FlowOp}
use Rattle.flow_table.specs.Matching.{IsBest, NoneMatches}
use Rattle.switch_engine.specs.declared.actions.Turn.{Turn}
use Rattle.switch_engine.specs.declared.carried.Carried.{Carried}
use Rattle.switch_engine.specs.declared.effect.Effect.{Effect}
use Rattle.switch_engine.specs.declared.effect.Entry.{Entry}
use Rattle.switch_engine.specs.declared.walk.RunOut.{RunOut}
use Rattle.switch_engine.specs.Acts.{Doing, Act}
use Rattle.switch_engine.specs.Framed.{CanBeSent}
use Rattle.switch_engine.specs.Outcome.{outcome, going_on, picks_in, of_program, choosing, IsDone}
use Rattle.switch_engine.specs.Range.{IsInRange}
use Rattle.switch_engine.specs.Walk.{unmatched}
use Rattle.switch_engine.specs.Zones.{ZoneLists}

-- a copy and the zones, with choices that are still to be made: the first are those that the effects tell of
abbrev pub having : Carried → ZoneLists → List Effect → List Choice → Doing
having copy zones told rest = record { copy = copy; zones = zones; choices = picks_in told ++ rest }

-- a copy's table is one of 256, the numbers in its registers lie within them, its packet is whole, and it didn't pass into other datapaths too often
pub record IsCarriedInRange (copy : Carried) : Type 0 where
  pub table : copy.table < 2 ^ 8
  pub regs : IsInRange copy.regs
  pub whole : IsWhole copy.packet
  pub passes : copy.passes ≤ MAX_HOPS

-- an action makes this of a copy and the zones, with effects that come after those before and can be sent, these copies, and the program's choices
pub record ActionDoes (what : Doing → Act) (turn : Turn) (copy next : Carried) (zones after : ZoneLists) (effects all : List Effect) (copies : List Carried) : Type 0 where
  pub told : List Effect
  pub all_effects : all ≡ effects ++ told
  pub sent : AllByRecursion CanBeSent told
  pub does : (rest : List Choice) → what (having copy zones told rest) ≡ record { turn = turn; after = having next after [] rest; effects = told; made = copies; legal = true; own = true }

-- its copies come after those before, and all are in range
pub record DoesAll (what : Doing → Act) (turn : Turn) (copy next : Carried) (zones after : ZoneLists) (effects all : List Effect) (made all_made : List Carried) : Type 0 where
  pub copies : List Carried
  pub all_copies : all_made ≡ made ++ copies
  pub in_range : AllByRecursion IsCarriedInRange (next ∷ all_made)
  pub does : ActionDoes what turn copy next zones after effects all copies

-- actions bring this on, with the program's choices: effects that can be sent, and copies in range
pub record Brings (entry : Entry) (now : ℕ) (ops : List FlowOp) (copy : Carried) (itself : Option Carried) (zones after : ZoneLists) (effects all : List Effect) (made all_made : List Carried) : Type 0 where
  pub told : List Effect
  pub copies : List Carried
  pub all_effects : all ≡ effects ++ told
  pub sent : AllByRecursion CanBeSent told
  pub all_copies : all_made ≡ made ++ copies
  pub in_range : AllByRecursion IsCarriedInRange (option_to_list itself ++ all_made)
  pub brings : (rest : List Choice) → outcome entry now ops (having copy zones told rest) ≡ record { effects = told; itself = option_to_list itself; made = copies; zones = after; left = rest; legal = true; own = true }

-- one copy came through its table, beside the others: it matched no flow, or a best one and what its actions bring on is there, with the program's choices
-- and effects that can be sent
pub data Advances (flows : List Flow) (entry : Entry) (now : ℕ) (copy : Carried) (zones after : ZoneLists) (others left : List Carried) (old new : RunOut) : Type 0 where
  unmatched_here : NoneMatches flows copy.table copy.regs copy.packet
      → after ≡ zones
      → left ≡ others
      → new.walk ≡ old.walk
      → new.effects ≡ old.effects ++ unmatched entry copy
      → Advances flows entry now copy zones after others left old new
  matched : (flow : Flow) (told : List Effect)
      → IsBest flows copy.table copy.regs copy.packet flow
      → IsDone of_program (outcome entry now flow.ops (choosing copy zones told)) told
      → after ≡ (outcome entry now flow.ops (choosing copy zones told)).zones
      → left ≡ going_on (outcome entry now flow.ops (choosing copy zones told)) ++ others
      → new.walk ≡ old.walk ++ record { table = copy.table; flow = flow } ∷ []
      → new.effects ≡ old.effects ++ told
      → AllByRecursion CanBeSent told
      → Advances flows entry now copy zones after others left old new

-- some effects came to the effects
pub record Extends (old new : List Effect) : Type 0 where
  pub more : List Effect
  pub all_effects : new ≡ old ++ more
