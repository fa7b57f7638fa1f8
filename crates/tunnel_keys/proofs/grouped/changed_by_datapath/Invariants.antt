use Rattle.std.proofs.Common.{◌≡◌, ◌++◌, drop}
use Rattle.ovn_base.specs.declared.name.Name.{Name}
use Rattle.tunnel_keys.specs.Grouped.{grouped_under}
use Rattle.tunnel_keys.specs.Owners.{ports_in}
use Rattle.tunnel_keys.proofs.grouped.changed_by_datapath.Given as goal

-- those that are left come behind those that came
abbrev pub invariant-loop-owner : goal.invariant-loop-owner
invariant-loop-owner l = (d : Name) → grouped_under l.groups.entries d ++ ports_in d (drop l.owner-index l.removed) ≡ ports_in d l.added ++ ports_in d l.removed
