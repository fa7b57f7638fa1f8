use Rattle.std.proofs.Common.{◌≡◌, slice_get, drop}
use Rattle.tuple_space.specs.Bunches.{flows_in}
use Rattle.tuple_space.proofs.buckets.flow_in.Given as goal

-- what is left of the index, in what is left of the buckets
abbrev pub invariant-loop-i : goal.invariant-loop-i
invariant-loop-i l = slice_get (flows_in (drop l.i l.places.entries)) l.left ≡ slice_get (flows_in l.places.entries) l.index
