-- Sums up to the greatest number.
use Rattle.std.specs.Prelude.{◌≡◌, ℕ, ◌+◌, ◌-◌, ◌^◌, min, max}
use Rattle.std.proofs.Common.{arith}
use Rattle.match_cubes.specs.Width.{saturated}

-- a sum goes on with a part that is capped itself
pub add_applying : (total next width rest : ℕ) → next ≡ min (total + max (saturated width) 1) (2 ^ 128 - 1) → saturated (total + (max 1 width + rest)) ≡ saturated (next + rest)
add_applying total next width rest h = omega (arith, h)

pub add_none : (total rest : ℕ) → saturated (total + (0 + rest)) ≡ saturated (total + rest)
add_none total rest = omega arith
