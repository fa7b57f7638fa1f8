use Rattle.std.proofs.Common.{◌≡◌, ◌++◌, drop}
use Rattle.std.specs.List.{filter}
use Rattle.ovn_base.specs.declared.name.Name.{Name}
use Rattle.tunnel_keys.specs.Grouped.{grouped_under}
use Rattle.ovn_base.specs.names.SameName.{same_name}
use Rattle.tunnel_keys.proofs.grouped.retired_by_datapath.Given as goal

-- those that are left come behind those that came
abbrev pub invariant-loop-held : goal.invariant-loop-held
invariant-loop-held l = (d : Name) → grouped_under l.groups.entries d ++ filter (λ h. same_name d h.datapath.name) (drop l.held-index l.retired) ≡ filter (λ h. same_name d h.datapath.name) l.retired
