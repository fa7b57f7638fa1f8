use Rattle.std.proofs.Common.{◌≡◌, take}
use Rattle.ovn_base.specs.lists.Among.{Among}
use Rattle.tuple_space.specs.declared.turn.Turn.{Turn}
use Rattle.tuple_space.proofs.turn.index_of.Given as goal

-- none of the turns so far is the mask's
abbrev pub invariant-loop-i : goal.invariant-loop-i
invariant-loop-i l = (t : Turn) → Among t (take l.i l.turns) → ¬ (t.number ≡ l.number)
