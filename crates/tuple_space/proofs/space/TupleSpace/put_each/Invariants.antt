use Rattle.std.proofs.Common.{◌≤◌, ◌⊎◌, ◌↔◌, ℕ, List}
use Rattle.ovn_base.specs.lists.Among.{Among}
use Rattle.ovn_base.specs.lists.Once.{EachOnce}
use Rattle.flow_table.specs.declared.flow.Flow.{Flow}
use Rattle.tuple_space.specs.Bunches.{flows_in, promised_under}
use Rattle.tuple_space.specs.Space.{IsServed, count_under}
use Rattle.tuple_space.proofs.space.TupleSpace.put_each.Given as goal

-- all is ready for those that are left, which with what is held make all
abbrev pub invariant-loop-flow : goal.invariant-loop-flow
invariant-loop-flow l =
    let left = l.flow-iterator.rest.items in
    record {
      once : EachOnce left;
      served : (f : Flow) → Among f left → IsServed l.self.masks l.self.turns f 0 0;
      room : (k : List ℕ) → count_under l.self.masks k left ≤ promised_under l.self.bunches k;
      fresh : (f : Flow) → Among f left → ¬ Among f (flows_in l.self.bunches);
      all : (f : Flow) → (Among f left ⊎ Among f (flows_in l.self.bunches)) ↔ (Among f l.fn.flows ⊎ Among f (flows_in l.fn.self.bunches));
    }
