use Rattle.std.proofs.Common.{◌≡◌, ◌≤◌, ℕ, List, take}
use Rattle.tuple_space.specs.Bunches.{flows_in, promised_under}
use Rattle.tuple_space.specs.Space.{count_under}
use Rattle.tuple_space.proofs.space.TupleSpace.promise_each.Given as goal

-- room is promised for those so far
abbrev pub invariant-loop-flow : goal.invariant-loop-flow
invariant-loop-flow l = record { masks : l.self.masks ≡ l.fn.self.masks; turns : l.self.turns ≡ l.fn.self.turns; flows : flows_in l.self.bunches ≡ flows_in l.fn.self.bunches; room : (k : List ℕ) → count_under l.fn.self.masks k (take l.flow-index l.flows) ≤ promised_under l.self.bunches k }
