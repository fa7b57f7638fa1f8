-- Counts of steps.
use Rattle.std.specs.Prelude.{ℕ, ◌+◌, ◌-◌, ◌^◌, min, max}

-- the count after so many more steps: it goes up to the greatest u64 and no further
abbrev pub after_steps : ℕ → ℕ → ℕ
after_steps n count = max count (min (count + n) (2 ^ 64 - 1))
