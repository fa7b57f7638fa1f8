use Rattle.std.proofs.Common.{◌≡◌, drop}
use Rattle.std.specs.Cmp.Lexicographic.{slice_cmp}
use Rattle.std.specs.Ordering.{nat_cmp}
use Rattle.ovn_base.proofs.name.order_of.Given as goal

-- the bytes so far are the same
abbrev pub invariant-bytes : goal.invariant-bytes
invariant-bytes l = slice_cmp nat_cmp l.text l.other ≡ slice_cmp nat_cmp (drop l.at l.text) (drop l.at l.other)
