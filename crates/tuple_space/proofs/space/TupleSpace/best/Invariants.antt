use Rattle.std.proofs.Common.{take}
use Rattle.std.specs.Option.{option_copied}
use Rattle.tuple_space.specs.Bunches.{flows_in}
use Rattle.tuple_space.proofs.LookLaws.{HasOneOf, IsAnswerOf}
use Rattle.tuple_space.proofs.space.TupleSpace.best.Given as goal

-- the best of the flows whose masks were asked
abbrev pub invariant-loop-turn : goal.invariant-loop-turn
invariant-loop-turn l = IsAnswerOf (HasOneOf l.self.masks (take l.turn-index l.turns)) (flows_in l.self.bunches) l.table l.regs l.packet (option_copied l.best)
