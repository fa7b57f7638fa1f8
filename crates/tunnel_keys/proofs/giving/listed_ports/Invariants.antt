use Rattle.std.proofs.Common.{◌≡◌, ◌≢◌, ◌++◌, []}
use Rattle.ovn_base.specs.declared.name.Name.{Name}
use Rattle.tunnel_keys.specs.Grouped.{grouped_under}
use Rattle.tunnel_keys.specs.Keys.{ports_on}
use Rattle.tunnel_keys.specs.Giving.{lists_of}
use Rattle.tunnel_keys.proofs.giving.listed_ports.Given as goal

-- the lists that are left come behind those that are made, and the groups stay
abbrev pub invariant-loop-name : goal.invariant-loop-name
invariant-loop-name l = (l.lists ++ lists_of l.ports.entries l.name-iterator ≡ lists_of l.ports.entries l.datapaths.entries)
    × ((d : Name) → grouped_under l.changed.entries d ≢ [] → grouped_under l.groups.entries d ≡ ports_on l.ports.entries d)
