use Rattle.std.proofs.Common.{◌≡◌, take}
use Rattle.ovn_base.specs.lists.Among.{Among}
use Rattle.flow_table.specs.declared.flow.Flow.{Flow}
use Rattle.tuple_space.specs.Space.{IsServed}
use Rattle.tuple_space.proofs.space.TupleSpace.serve_each.Given as goal

-- those so far are served
abbrev pub invariant-loop-flow : goal.invariant-loop-flow
invariant-loop-flow l = record { served : (f : Flow) → Among f (take l.flow-index l.flows) → IsServed l.self.masks l.self.turns f 0 0; bunches : l.self.bunches ≡ l.fn.self.bunches }
