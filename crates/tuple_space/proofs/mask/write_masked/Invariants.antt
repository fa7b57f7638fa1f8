use Rattle.std.proofs.Common.{◌≡◌, ◌≤◌, ◌+◌, ◌∷◌, length, take}
use Rattle.tuple_space.specs.Masks.{masked}
use Rattle.tuple_space.proofs.mask.write_masked.Given as goal

-- the values of the fields so far
abbrev pub invariant-loop-asked : goal.invariant-loop-asked
invariant-loop-asked l = record { done : l.key.items ≡ l.table ∷ l.number ∷ masked (take l.asked-index l.asks) l.values; few : length l.key.items ≤ 2 + l.asked-index }
