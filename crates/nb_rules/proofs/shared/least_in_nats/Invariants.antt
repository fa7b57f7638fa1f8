use Rattle.std.proofs.Common.{◌≡◌, map}
use Rattle.std.specs.List.{filter}
use Rattle.std.specs.Map.{values_of}
use Rattle.ovn_base.specs.names.SameName.{same_name}
use Rattle.nb_rules.specs.Holders as spec
use Rattle.nb_rules.proofs.shared.least_in_nats.Given as goal

-- those that are left tell it
abbrev pub invariant-rows : goal.invariant-rows
invariant-rows l = spec.least_shared l.records l.port l.fn.so_far (map (λ r. r.external_ip) (filter (λ r. same_name r.router l.router) (values_of l.records.nats))) ≡ spec.least_shared l.records l.port l.least (map (λ r. r.external_ip) (filter (λ r. same_name r.router l.router) (values_of l._name-iterator)))
