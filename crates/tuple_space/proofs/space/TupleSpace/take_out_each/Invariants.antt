use Rattle.std.proofs.Common.{◌≡◌, ◌↔◌, ℕ, List, take}
use Rattle.ovn_base.specs.lists.Among.{Among}
use Rattle.flow_table.specs.declared.flow.Flow.{Flow}
use Rattle.tuple_space.specs.Bunches.{flows_in, promised_under}
use Rattle.tuple_space.proofs.space.TupleSpace.take_out_each.Given as goal

-- those so far are out
abbrev pub invariant-loop-flow : goal.invariant-loop-flow
invariant-loop-flow l = record { masks : l.self.masks ≡ l.fn.self.masks; turns : l.self.turns ≡ l.fn.self.turns; kept : (f : Flow) → Among f (flows_in l.self.bunches) ↔ (Among f (flows_in l.fn.self.bunches) × ¬ Among f (take l.flow-index l.flows)); promised : (k : List ℕ) → promised_under l.self.bunches k ≡ promised_under l.fn.self.bunches k }
