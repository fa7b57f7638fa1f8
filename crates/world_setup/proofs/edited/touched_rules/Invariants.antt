use Rattle.std.proofs.Common.{◌≡◌, ◌++◌, drop, flat_map}
use Rattle.world_setup.specs.Touched.{rules_by}
use Rattle.world_setup.proofs.edited.touched_rules.Given as goal

-- the rules so far, and those of the operations that are left
abbrev pub invariant-ops : goal.invariant-ops
invariant-ops l = l.rules ++ flat_map rules_by (drop l.op-index l.ops) ≡ flat_map rules_by l.ops
