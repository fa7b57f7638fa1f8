use Rattle.std.proofs.Common.{◌≡◌, ◌-◌, length, take}
use Rattle.std.specs.Map.{keys_of}
use Rattle.world_setup.proofs.setup.all_lowered.Given as goal

-- the flows so far
abbrev pub invariant-flows : goal.invariant-flows
invariant-flows l = l.flows ≡ take (length l.flows) (keys_of l.lowered.counts)

abbrev pub decreases-flows : goal.decreases-flows
decreases-flows l = length (keys_of l.lowered.counts) - length l.flows
