use Rattle.std.proofs.Common.{◌≡◌, ◌++◌, drop, filter}
use Rattle.logical_flows.specs.FlowText.{is_of}
use Rattle.logical_flows.proofs.print_match.push_of.Given as goal

abbrev pub invariant-loop-reg_is : goal.invariant-loop-reg_is
invariant-loop-reg_is l = l.all ++ filter (is_of l.reg) (drop l.reg_is-index l.regs) ≡ l.fn.all ++ filter (is_of l.reg) l.regs
