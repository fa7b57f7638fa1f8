use Rattle.std.proofs.Common.{length}
use Rattle.nb_edits.proofs.operate.+operate_all.Given as goal

abbrev pub decreases-operate_all : goal.decreases-operate_all
decreases-operate_all l = length l.ops.now
