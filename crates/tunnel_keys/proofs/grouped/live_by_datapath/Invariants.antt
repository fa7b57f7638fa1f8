use Rattle.std.proofs.Common.{◌≡◌, ◌≢◌, ◌++◌, []}
use Rattle.ovn_base.specs.declared.name.Name.{Name}
use Rattle.tunnel_keys.specs.Grouped.{grouped_under}
use Rattle.tunnel_keys.specs.Keys.{ports_on}
use Rattle.tunnel_keys.proofs.grouped.live_by_datapath.Given as goal

-- those that are left come behind those that came
abbrev pub invariant-loop-name : goal.invariant-loop-name
invariant-loop-name l = (d : Name) → grouped_under l.others.entries d ≢ [] → grouped_under l.groups.entries d ++ ports_on l.name-iterator d ≡ ports_on l.ports.entries d
