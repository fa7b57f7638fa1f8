use Rattle.std.proofs.Common.{◌≡◌, ◌+◌, ◌*◌, ◌≤◌, length}
use Rattle.inet_packet.specs.Sums.{plain}
use Rattle.inet_packet.proofs.frame_sums.plain_sum.Given as goal

abbrev pub invariant-pairs : goal.invariant-pairs
invariant-pairs l = record { same : l.sum + plain l.left ≡ plain l.bytes; small : l.sum + 32768 * length l.left ≤ 32768 * length l.bytes }

abbrev pub decreases-pairs : goal.decreases-pairs
decreases-pairs l = length l.left
