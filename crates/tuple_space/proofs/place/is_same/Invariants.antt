use Rattle.std.proofs.Common.{◌≡◌, drop, nat_eq}
use Rattle.std.specs.Cmp.Lexicographic.{pointwise}
use Rattle.tuple_space.proofs.place.is_same.Given as goal

-- what is left of them is the same exactly where all is
abbrev pub invariant-loop-i : goal.invariant-loop-i
invariant-loop-i l = pointwise nat_eq (drop l.i l.numbers) (drop l.i l.others) ≡ pointwise nat_eq l.numbers l.others
