use Rattle.std.proofs.Common.{◌≡◌, ◌++◌}
use Rattle.flow_refs.specs.Difference.{begins, flows_where}
use Rattle.flow_refs.proofs.difference.added.Given as goal

-- with those among the numbers that are left, all are there
abbrev pub invariant-numbers : goal.invariant-numbers
invariant-numbers g l = l.flows ++ flows_where g.F.PartialEq.eq begins l.counts.entries l.flow-iterator.rest.now ≡ flows_where g.F.PartialEq.eq begins l.counts.entries l.fn.numbers
