use Rattle.std.proofs.Common.{◌≡◌, ◌+◌, ◌<◌, ℕ, true}
use Rattle.std.specs.List.{IsDistinct}
use Rattle.std.specs.Set.{is_member}
use Rattle.flow_refs.specs.Counts.{bit, new_number_of}
use Rattle.flow_refs.proofs.counting.lower_each.Given as goal

-- what the flows that are left take from the numbers now, all take from those at the beginning
abbrev pub invariant-flows : goal.invariant-flows
invariant-flows g l =
    let eq = g.F.PartialEq.eq in
    let left = l.flow-iterator.rest.now in
    record {
      goes_on : (goal.iterator-flows g).can_next l.flow-iterator;
      ends : (goal.iterator-flows g).is_finite l.flow-iterator;
      once : IsDistinct eq left;
      some : (q : _) → is_member eq left q ≡ true → 0 < new_number_of eq l.numbers.entries l.counts.entries q;
      same : (q : _) (n : ℕ) → n + bit (is_member eq left q) ≡ new_number_of eq l.numbers.entries l.counts.entries q → n + bit (is_member eq l.fn.flows q) ≡ new_number_of eq l.fn.numbers.entries l.counts.entries q;
    }
