use Rattle.std.proofs.Common.{◌≡◌, drop}
use Rattle.ovn_base.specs.names.ByName.{in_order, put_all}
use Rattle.tunnel_keys.specs.Owners.{ports_in}
use Rattle.world_setup.proofs.edited.new_ports.Given as goal

-- those that are left come to those that came
abbrev pub invariant-owners : goal.invariant-owners
invariant-owners l = put_all l.ports.entries (ports_in l.place (drop l.owner-index l.added)) ≡ in_order (ports_in l.place l.added)
