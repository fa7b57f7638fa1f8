use Rattle.std.proofs.Common.{◌≡◌, ◌≤◌, ◌*◌, ◌^◌, take}
use Rattle.world_core.specs.Outcome.{matched}
use Rattle.world_core.proofs.world.steps.matched_in.Given as goal

abbrev pub invariant-walks : goal.invariant-walks
invariant-walks l = record {
  so_far : l.count ≡ matched (take l.walk-index l.fn.walks);
  few : l.count ≤ l.walk-index * 2 ^ 64;
}
