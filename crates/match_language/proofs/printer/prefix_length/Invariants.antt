use Rattle.std.proofs.Common.{◌≡◌, ◌≤◌}
use Rattle.match_language.specs.Spelling.{prefix_below}
use Rattle.match_language.proofs.printer.prefix_length.Given as goal

abbrev pub invariant-loop-len : goal.invariant-loop-len
invariant-loop-len l = (l.len ≤ 32) × (prefix_below 32 l.mask ≡ prefix_below l.len l.mask)

abbrev pub decreases-loop-len : goal.decreases-loop-len
decreases-loop-len l = l.len
