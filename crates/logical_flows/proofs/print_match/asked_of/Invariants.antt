use Rattle.std.proofs.Common.{◌≡◌, ◌++◌, drop, filter, flat_map}
use Rattle.logical_flows.specs.FlowText.{is_of}
use Rattle.logical_flows.proofs.print_match.asked_of.Given as goal

abbrev pub invariant-loop-reg : goal.invariant-loop-reg
invariant-loop-reg l = l.all ++ flat_map (λ r. filter (is_of r) l.regs) (drop l.reg-index l.order) ≡ flat_map (λ r. filter (is_of r) l.regs) l.order
