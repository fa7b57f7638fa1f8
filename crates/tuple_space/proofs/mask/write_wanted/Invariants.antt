use Rattle.std.proofs.Common.{◌≡◌, ◌≤◌, ◌+◌, ◌∷◌, ◌++◌, length, drop}
use Rattle.tuple_space.specs.Masks.{wanted_values, one_wanted, each_field}
use Rattle.tuple_space.proofs.mask.write_wanted.Given as goal

-- what stands there and what is wanted in the other fields is all that is wanted
abbrev pub invariant-loop-i : goal.invariant-loop-i
invariant-loop-i l = record { all : l.key.items ++ each_field one_wanted l.i (drop l.i l.bits) ≡ l.table ∷ l.number ∷ wanted_values l.bits; few : length l.key.items ≤ 2 + l.i }
