use Rattle.std.proofs.Common.{◌≡◌, map, take}
use Rattle.match_cubes.specs.Cubes as spec
use Rattle.match_cubes.proofs.cubes.compared.Given as goal

abbrev pub invariant-loop-bits : goal.invariant-loop-bits
invariant-loop-bits l = l.cubes ≡ map (spec.comparing l.field) (take l.bits-index l.all)
