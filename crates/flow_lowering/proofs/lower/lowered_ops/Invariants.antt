use Rattle.std.proofs.Common.{◌≡◌, ◌++◌, drop}
use Rattle.std.specs.List.{AllByRecursion}
use Rattle.flow_lowering.specs.LoweredFlows as spec
use Rattle.flow_lowering.proofs.lower.lowered_ops.Given as goal

-- the operations so far, and those of the actions that are left
abbrev pub invariant-loop-action : goal.invariant-loop-action
invariant-loop-action l = record {
  ops : l.ops ++ spec.lowered_ops l.keys (drop l.action-index l.actions) ≡ spec.lowered_ops l.keys l.actions;
  live : AllByRecursion (spec.NamesLivePort l.keys) (drop l.action-index l.actions);
}
