use Rattle.std.proofs.Common.{◌≡◌, drop}
use Rattle.ovn_base.specs.names.ByName.{put_all, in_order}
use Rattle.tunnel_keys.specs.Owners.{datapaths_in}
use Rattle.tunnel_keys.proofs.giving.new_datapaths.Given as goal

-- those that are left come to those that came
abbrev pub invariant-loop-owner : goal.invariant-loop-owner
invariant-loop-owner l = put_all l.arrivals.entries (datapaths_in (drop l.owner-index l.added)) ≡ in_order (datapaths_in l.added)
