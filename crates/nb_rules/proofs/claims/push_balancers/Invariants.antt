use Rattle.std.proofs.Common.{◌≡◌, ◌++◌, map}
use Rattle.std.specs.List.{filter, flat_map}
use Rattle.std.specs.Map.{values_of}
use Rattle.nb_records.specs.Switches.{serves_at}
use Rattle.nb_rules.specs.Claims as spec
use Rattle.nb_rules.proofs.claims.push_balancers.Given as goal

-- those that are left come behind what there is
abbrev pub invariant-balancers : goal.invariant-balancers
invariant-balancers l = l.claims ++ spec.claims_to l.records l.port (flat_map (λ b. map (λ v. v.at.ip) b.vips) (filter (serves_at l.router) (values_of l._name-iterator))) ≡ l.fn.claims ++ spec.claims_to l.records l.port (flat_map (λ b. map (λ v. v.at.ip) b.vips) (filter (serves_at l.router) (values_of l.records.load_balancers)))
