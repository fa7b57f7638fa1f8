use Rattle.std.proofs.Common.{ℕ, ◌<◌}
use Rattle.tuple_space.specs.Sieving.{HasBit, IsLet}
use Rattle.tuple_space.proofs.sieve.Sieve.passed.Given as goal

-- what is let through at all asks is left at those so far
abbrev pub invariant-loop-i : goal.invariant-loop-i
invariant-loop-i l = (bit : ℕ) → bit < 128 → IsLet l.self l.values bit → HasBit l.word bit
