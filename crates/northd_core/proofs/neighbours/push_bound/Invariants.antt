use Rattle.std.specs.Prelude.{◌≡◌, ◌++◌, filter, map}
use Rattle.std.specs.Map.{values_of}
use Rattle.ovn_base.specs.names.SameName.{same_name}
use Rattle.nb_records.specs.declared.router.StaticMac.{StaticMac}
use Rattle.stage_rows.specs.Units.{bound_ips}
use Rattle.northd_core.proofs.neighbours.push_bound.Given as goal

-- the addresses so far, and those of the bindings that are left
abbrev pub invariant-bindings : goal.invariant-bindings
invariant-bindings l = l.ips ++ map (λ (s : StaticMac). s.ip) (filter (λ (s : StaticMac). same_name s.port l.port.name) (values_of l._name-iterator)) ≡ l.fn.ips ++ bound_ips l.records l.port
