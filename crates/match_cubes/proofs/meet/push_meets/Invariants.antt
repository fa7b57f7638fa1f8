use Rattle.std.proofs.Common.{◌≡◌, ◌++◌, take}
use Rattle.std.specs.List.{flat_map}
use Rattle.match_cubes.proofs.meet.push_meets.Given as goal

abbrev pub invariant-loop-other : goal.invariant-loop-other
invariant-loop-other g l = l.out ≡ l.fn.out ++ flat_map (g.T.Meet.both l.one) (take l.other-index l.others)
