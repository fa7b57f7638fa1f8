use Rattle.std.proofs.Common.{drop}
use Rattle.std.specs.List.{AllByRecursion}
use Rattle.switch_engine.specs.Proper.{Rises}
use Rattle.engine_tests.proofs.proper.all_rise.Given as goal

-- all rise, if those that are left do
abbrev pub invariant-ops : goal.invariant-ops
invariant-ops l = AllByRecursion (Rises l.table) (drop l.op-index l.ops) → AllByRecursion (Rises l.table) l.ops
