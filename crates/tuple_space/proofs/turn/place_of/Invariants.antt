use Rattle.std.proofs.Common.{take}
use Rattle.ovn_base.specs.lists.Among.{Among}
use Rattle.tuple_space.specs.declared.turn.Turn.{Turn}
use Rattle.tuple_space.specs.Turns.{IsUnder}
use Rattle.tuple_space.proofs.turn.place_of.Given as goal

-- the bounds so far are at least this
abbrev pub invariant-loop-i : goal.invariant-loop-i
invariant-loop-i l = (t : Turn) → Among t (take l.i l.turns) → IsUnder l.priority l.rank t
