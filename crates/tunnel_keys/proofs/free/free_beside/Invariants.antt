use Rattle.std.proofs.Common.{◌≡◌, ◌≤◌, length}
use Rattle.tunnel_keys.specs.Keys.{free_in}
use Rattle.tunnel_keys.proofs.free.free_beside.Given as goal

-- the free keys so far
abbrev pub invariant-loop-passed : goal.invariant-loop-passed
invariant-loop-passed l = (l.found ≡ free_in l.passed l.taken) × (length l.found ≤ l.count)
