use Rattle.std.proofs.Common.{◌≡◌}
use Rattle.tuple_space.proofs.space.TupleSpace.sift_each.Given as goal

-- nothing but sieves changes
abbrev pub invariant-loop-i : goal.invariant-loop-i
invariant-loop-i l = record { masks : l.self.masks ≡ l.fn.self.masks; turns : l.self.turns ≡ l.fn.self.turns; bunches : l.self.bunches ≡ l.fn.self.bunches }
