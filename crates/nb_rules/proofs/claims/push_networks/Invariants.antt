use Rattle.std.proofs.Common.{◌≡◌, ◌++◌, map, drop}
use Rattle.nb_rules.specs.Claims as spec
use Rattle.nb_rules.proofs.claims.push_networks.Given as goal

-- those that are left come behind what there is
abbrev pub invariant-networks : goal.invariant-networks
invariant-networks l = l.claims ++ spec.claims_to l.records l.port (map (λ n. n.addr) (drop l.network-index l.networks)) ≡ l.fn.claims ++ spec.claims_to l.records l.port (map (λ n. n.addr) l.networks)
