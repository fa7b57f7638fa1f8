use Rattle.std.proofs.Common.{◌≡◌, ◌≤◌, length}
use Rattle.std.specs.List.{IsDistinct}
use Rattle.std.specs.Map.{keys_of}
use Rattle.indexmap.specs.IndexMap.{spare}
use Rattle.flow_refs.specs.Counts.{kept_number}
use Rattle.flow_refs.proofs.putting.set_numbers.Given as goal

-- what is left makes of the counts now what all the numbers make of those at the beginning
abbrev pub invariant-numbers : goal.invariant-numbers
invariant-numbers g l =
    let eq = g.F.PartialEq.eq in
    let left = l.flow-iterator.rest.items in
    record {
      once : IsDistinct eq (keys_of left);
      room : length left ≤ spare l.counts;
      same : (q : _) → kept_number eq l.counts.entries left q ≡ kept_number eq l.fn.counts.entries l.fn.numbers q;
    }
