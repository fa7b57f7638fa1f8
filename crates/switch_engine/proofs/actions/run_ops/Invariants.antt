use Rattle.std.proofs.Common.{◌≡◌, drop}
use Rattle.std.specs.List.{AllByRecursion}
use Rattle.indexmap.specs.IndexMap.{spare}
use Rattle.switch_engine.specs.Proper.{Sets}
use Rattle.switch_engine.proofs.Doings.{Doings}
use Rattle.switch_engine.proofs.actions.run_ops.Given as goal

abbrev pub invariant-ops : goal.invariant-ops
invariant-ops l = record {
  doings : Doings l.fn.entry l.fn.now l.fn.ops (drop l.op-index l.ops) l.fn.copy l.copy l.fn.zones.entries l.zones.entries l.fn.effects l.effects l.fn.made l.made;
  sets : AllByRecursion Sets (drop l.op-index l.ops);
  room : spare l.zones ≡ spare l.fn.zones;
}
