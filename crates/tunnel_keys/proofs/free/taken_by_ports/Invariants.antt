use Rattle.std.proofs.Common.{◌≡◌, ◌++◌, map, drop}
use Rattle.std.specs.List.{filter}
use Rattle.tunnel_keys.specs.Same.{same_identity}
use Rattle.tunnel_keys.specs.Giving.{taken_on}
use Rattle.tunnel_keys.proofs.free.taken_by_ports.Given as goal

-- what is left comes behind what was taken so far
abbrev pub invariant-loop-key : goal.invariant-loop-key
invariant-loop-key l = l.taken ++ map (λ p. p.1) (drop l.key-index l.live) ≡ map (λ p. p.1) l.live

abbrev pub invariant-loop-held : goal.invariant-loop-held
invariant-loop-held l = l.taken ++ map (λ h. h.key) (filter (λ h. same_identity l.datapath h.datapath) (drop l.held-index l.retired)) ≡ taken_on l.live l.retired l.datapath
