use Rattle.std.proofs.Common.{◌≡◌, length}
use Rattle.stage_rows.specs.Facts.{ips_in_order}
use Rattle.stage_rows.proofs.InOrder.{put_onto}
use Rattle.stage_rows.proofs.answered.in_order.Given as goal

-- those that are left, put among those so far
abbrev pub invariant-ips : goal.invariant-ips
invariant-ips l = put_onto l.keys.keys l.rest ≡ ips_in_order l.fn.ips

abbrev pub decreases-ips : goal.decreases-ips
decreases-ips l = length l.rest
