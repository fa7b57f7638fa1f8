use Rattle.std.proofs.Common.{◌≡◌, drop}
use Rattle.match_cubes.specs.Points as spec
use Rattle.match_cubes.proofs.sets.named.Given as goal

abbrev pub invariant-loop-name : goal.invariant-loop-name
invariant-loop-name g l = spec.named (drop l.name-index l.entries) l.text ≡ spec.named l.entries l.text
