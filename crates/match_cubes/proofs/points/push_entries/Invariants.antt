use Rattle.std.proofs.Common.{◌≡◌, ◌++◌, map, take}
use Rattle.match_cubes.specs.Points as spec
use Rattle.match_cubes.proofs.points.push_entries.Given as goal

abbrev pub invariant-loop-entry : goal.invariant-loop-entry
invariant-loop-entry l = l.out ≡ l.fn.out ++ map (spec.entry_bits l.field) (take l.entry-index l.entries)
