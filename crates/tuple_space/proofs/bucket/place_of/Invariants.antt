use Rattle.std.proofs.Common.{take}
use Rattle.ovn_base.specs.lists.Among.{Among}
use Rattle.flow_table.specs.declared.flow.Flow.{Flow}
use Rattle.flow_table.specs.Matching.{Beats}
use Rattle.tuple_space.proofs.bucket.place_of.Given as goal

-- the flow beats none of those so far
abbrev pub invariant-loop-i : goal.invariant-loop-i
invariant-loop-i l = (g : Flow) → Among g (take l.i l.flows.flows) → ¬ Beats l.flow g
