use Rattle.std.proofs.Common.{◌≡◌, ◌++◌, map, take}
use Rattle.match_cubes.specs.Points as spec
use Rattle.match_cubes.proofs.points.push_ports.Given as goal

abbrev pub invariant-loop-name : goal.invariant-loop-name
invariant-loop-name l = l.out ≡ l.fn.out ++ map (λ name. spec.key_bits (spec.named l.ports.list name)) (take l.name-index l.names)
