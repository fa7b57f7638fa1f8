use Rattle.std.proofs.Common.{◌≡◌, take}
use Rattle.std.specs.List.{flat_map}
use Rattle.match_cubes.proofs.meet.meets.Given as goal

abbrev pub invariant-loop-one : goal.invariant-loop-one
invariant-loop-one g l = l.all ≡ flat_map (λ x. flat_map (g.T.Meet.both x) l.others) (take l.one-index l.ones)
