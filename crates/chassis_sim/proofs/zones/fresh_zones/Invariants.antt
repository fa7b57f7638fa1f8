use Rattle.std.proofs.Common.{◌≡◌, length}
use Rattle.std.specs.List.{AllByRecursion}
use Rattle.chassis_sim.specs.Changing.{IsFresh}
use Rattle.chassis_sim.proofs.zones.fresh_zones.Given as goal

-- for each chassis so far there are zones with room
abbrev pub invariant-added : goal.invariant-added
invariant-added g l = record {
  enough : length l.fresh ≡ l.index;
  fresh : AllByRecursion (IsFresh l.room) l.fresh;
}
