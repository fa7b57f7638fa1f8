use Rattle.std.proofs.Common.{length}
use Rattle.world_setup.proofs.built.+is_built_edit.Given as goal

abbrev pub decreases-is_built_edit : goal.decreases-is_built_edit
decreases-is_built_edit l = length l.ops.now
