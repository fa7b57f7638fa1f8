use Rattle.std.proofs.Common.{◌≡◌, ◌++◌, map}
use Rattle.std.specs.List.{filter}
use Rattle.std.specs.Map.{values_of}
use Rattle.ovn_base.specs.names.SameName.{same_name}
use Rattle.nb_rules.specs.Claims as spec
use Rattle.nb_rules.proofs.claims.push_nats.Given as goal

-- those that are left come behind what there is
abbrev pub invariant-rows : goal.invariant-rows
invariant-rows l = l.claims ++ spec.claims_to l.records l.port (map (λ r. r.external_ip) (filter (λ r. same_name r.router l.router) (values_of l._name-iterator))) ≡ l.fn.claims ++ spec.claims_to l.records l.port (map (λ r. r.external_ip) (filter (λ r. same_name r.router l.router) (values_of l.records.nats)))
