-- What is seen of the underlay.
use Rattle.std.specs.Prelude.{ℕ, List}
use Rattle.std.specs.List.{AllByRecursion}
use Rattle.std.specs.List.Sorted.{IsStrictlySortedBy}
use Rattle.std.specs.Map.{keys_of}
use Rattle.std.specs.Ordering.{nat_cmp}
use Rattle.chassis_sim.specs.declared.underlay.WaitingFrame.{WaitingFrame}
use Rattle.chassis_sim.specs.Frames.{IsWaiting}

-- the frames that wait, in order of number, and the number of the next one
pub record Underway : Type 0 where
  pub waiting : List (ℕ × WaitingFrame)
  pub next : ℕ

-- the frames are in order of number, and each frame that waits was sent before the next one
pub record IsUnderway (waiting : List (ℕ × WaitingFrame)) (next : ℕ) : Type 0 where
  pub ordered : IsStrictlySortedBy nat_cmp (keys_of waiting)
  pub each : AllByRecursion (IsWaiting next) waiting
