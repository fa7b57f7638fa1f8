use Rattle.std.proofs.Common.{◌≡◌, ◌++◌, length}
use Rattle.std.specs.Prelude.{reverse}
use Rattle.switch_engine.proofs.engine.put_all.Given as goal

-- the copies that are left, and then the pending ones
abbrev pub invariant-copies : goal.invariant-copies
invariant-copies l = l.copies ++ reverse l.pending ≡ l.fn.copies ++ reverse l.fn.pending

abbrev pub decreases-copies : goal.decreases-copies
decreases-copies l = length l.copies
