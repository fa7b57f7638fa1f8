use Rattle.std.proofs.Common.{◌≡◌, ◌≤◌, ◌++◌, length, drop}
use Rattle.tuple_space.specs.Masks.{asked_fields, one_asked, each_field}
use Rattle.tuple_space.proofs.mask.asks_of.Given as goal

-- what stands there and what the other fields ask for is all that is asked for
abbrev pub invariant-loop-i : goal.invariant-loop-i
invariant-loop-i l = record { all : l.asks.items ++ each_field one_asked l.i (drop l.i l.bits) ≡ asked_fields l.bits; few : length l.asks.items ≤ l.i }
