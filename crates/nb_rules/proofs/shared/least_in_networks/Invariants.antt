use Rattle.std.proofs.Common.{◌≡◌, None, map, drop}
use Rattle.nb_rules.specs.Holders as spec
use Rattle.nb_rules.proofs.shared.least_in_networks.Given as goal

-- those that are left tell it
abbrev pub invariant-networks : goal.invariant-networks
invariant-networks l = spec.least_shared l.records l.port None (map (λ n. n.addr) l.networks) ≡ spec.least_shared l.records l.port l.least (map (λ n. n.addr) (drop l.network-index l.networks))
