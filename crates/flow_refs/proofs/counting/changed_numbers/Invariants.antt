use Rattle.flow_refs.proofs.Midway.{IsMidway}
use Rattle.flow_refs.proofs.counting.changed_numbers.Given as goal

-- the numbers are those of some origins, of which the changes that are left make what all make of those at the beginning
abbrev pub invariant-changes : goal.invariant-changes
invariant-changes g l =
    record {
      goes_on : (goal.iterator-changes g).can_next l.origin-iterator;
      ends : (goal.iterator-changes g).is_finite l.origin-iterator;
      midway : IsMidway g.F.PartialEq.eq g.O.Ord.cmp l.origins.entries l.counts.entries l.fn.changes l.numbers.entries l.origin-iterator.rest.now;
    }
