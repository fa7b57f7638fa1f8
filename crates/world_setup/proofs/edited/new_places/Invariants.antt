use Rattle.std.proofs.Common.{◌≡◌, drop}
use Rattle.std.specs.List.{filter_map}
use Rattle.ovn_base.specs.names.ByName.{in_order, put_all}
use Rattle.world_setup.specs.KeyLines.{as_place}
use Rattle.world_setup.proofs.edited.new_places.Given as goal

-- those that are left come to those that came
abbrev pub invariant-owners : goal.invariant-owners
invariant-owners l = put_all l.places.entries (filter_map as_place (drop l.owner-index l.added)) ≡ in_order (filter_map as_place l.added)
