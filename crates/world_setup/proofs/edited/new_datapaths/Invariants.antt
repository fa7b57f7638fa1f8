use Rattle.std.proofs.Common.{◌≡◌, drop}
use Rattle.ovn_base.specs.names.ByName.{in_order, put_all}
use Rattle.tunnel_keys.specs.Owners.{datapaths_in}
use Rattle.world_setup.proofs.edited.new_datapaths.Given as goal

-- those that are left come to those that came
abbrev pub invariant-owners : goal.invariant-owners
invariant-owners l = put_all l.datapaths.entries (datapaths_in (drop l.owner-index l.added)) ≡ in_order (datapaths_in l.added)
