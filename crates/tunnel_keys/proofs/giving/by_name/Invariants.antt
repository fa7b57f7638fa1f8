use Rattle.std.proofs.Common.{◌≡◌, drop}
use Rattle.ovn_base.specs.names.ByName.{put_all, in_order}
use Rattle.tunnel_keys.proofs.giving.by_name.Given as goal

-- those that are left come to those that came
abbrev pub invariant-loop-name : goal.invariant-loop-name
invariant-loop-name l = put_all l.arrivals.entries (drop l.name-index l.owners) ≡ in_order l.owners
