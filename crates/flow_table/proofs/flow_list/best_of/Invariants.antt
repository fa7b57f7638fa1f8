use Rattle.std.proofs.Common.{take}
use Rattle.std.specs.Option.{option_copied}
use Rattle.flow_table.proofs.Best.{IsAnswer}
use Rattle.flow_table.proofs.flow_list.best_of.Given as goal

-- the best of the flows so far
abbrev pub invariant-loop-flow : goal.invariant-loop-flow
invariant-loop-flow l = IsAnswer (take l.flow-index l.flows) l.table l.regs l.packet (option_copied l.best)
