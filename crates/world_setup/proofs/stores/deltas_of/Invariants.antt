use Rattle.std.proofs.Common.{◌≡◌, map, take}
use Rattle.world_setup.specs.Setup.{both_deltas}
use Rattle.world_setup.proofs.stores.deltas_of.Given as goal

-- the deltas so far
abbrev pub invariant-patches : goal.invariant-patches
invariant-patches l = l.deltas ≡ map (λ p. (p.0, both_deltas l.every p.1.delta)) (take l.name-index l.patches)
