use Rattle.std.proofs.Common.{◌≡◌}
use Rattle.std.specs.List.{filter, list_any}
use Rattle.std.specs.Map.{values_of}
use Rattle.ovn_base.specs.names.SameName.{same_name}
use Rattle.nb_records.specs.Switches as facts
use Rattle.nb_records.proofs.scopes.has_port_of.Given as goal

-- those that are left tell it
abbrev pub invariant-ports : goal.invariant-ports
invariant-ports l = list_any (λ q. facts.is_named q.name l.group.ports) (filter (λ q. same_name q.switch l.switch) (values_of l.records.switch_ports)) ≡ list_any (λ q. facts.is_named q.name l.group.ports) (filter (λ q. same_name q.switch l.switch) (values_of l._name-iterator))
