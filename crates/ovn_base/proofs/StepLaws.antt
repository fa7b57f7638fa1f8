-- Steps taken one after another.
use Rattle.std.specs.Prelude.{◌≡◌, ℕ, ◌+◌, ◌^◌, ◌<◌, ◌≤◌}
use native.Mathlib.Omega.{arith}
use Rattle.ovn_base.specs.numbers.Steps.{after_steps}

-- some and then some more are their sum
pub after_sum : (m n s : ℕ) → after_steps n (after_steps m s) ≡ after_steps (m + n) s
after_sum m n s = omega arith

-- no step changes no count
pub after_none : (s : ℕ) → after_steps 0 s ≡ s
after_none s = omega arith

-- a count grows by no more than the steps
pub after_at_most : (n s : ℕ) → after_steps n s ≤ s + n
after_at_most n s = omega arith

-- a count does not shrink
pub after_at_least : (n s : ℕ) → s ≤ after_steps n s
after_at_least n s = omega arith

-- below the greatest u64 it grows by just these
pub after_exact : (n s : ℕ) → s + n < 2 ^ 64 → after_steps n s ≡ s + n
after_exact n s h = omega (arith, h)

-- more steps leave no smaller count
pub after_more : (m n s : ℕ) → m ≤ n → after_steps m s ≤ after_steps n s
after_more m n s h = omega (arith, h)
