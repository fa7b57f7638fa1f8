use Rattle.std.proofs.Common.{◌≡◌, ◌++◌, drop}
use Rattle.world_setup.specs.Touched.{named_by}
use Rattle.world_setup.proofs.edited.touched_units.Given as goal

-- the units so far, and those of the operations that are left
abbrev pub invariant-ops : goal.invariant-ops
invariant-ops l = l.touched ++ named_by l.before l.after (drop l.op-index l.ops) ≡ named_by l.before l.after l.ops
