use Rattle.std.proofs.Common.{◌≡◌, ◌≤◌, ◌+◌, ◌++◌, ◌∷◌, length, take}
use Rattle.tuple_space.proofs.mask.push_entry.Given as goal

-- the bytes so far
abbrev pub invariant-loop-byte : goal.invariant-loop-byte
invariant-loop-byte l = record { done : l.key.items ≡ l.fn.key.items ++ 1 ∷ take l.byte-index l.byte-items; few : length l.key.items ≤ 33 + l.byte-index }
