use Rattle.std.proofs.Common.{◌<◌, ◌≤◌, ℕ}
use Rattle.ovn_base.specs.lists.Among.{Among}
use Rattle.conn_zones.proofs.giving.least_free.Given as goal

-- all numbers so far are taken
abbrev pub invariant-free : goal.invariant-free
invariant-free l = (m : ℕ) → 1 ≤ m → m < l.free → Among m l.numbers
