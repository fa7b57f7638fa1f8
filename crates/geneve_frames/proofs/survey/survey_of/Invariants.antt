use Rattle.std.proofs.Common.{length}
use Rattle.geneve_frames.proofs.Loop.{Saw}
use Rattle.geneve_frames.proofs.survey.survey_of.Given as goal

abbrev pub invariant-options : goal.invariant-options
invariant-options l = Saw l.options l.rest l.found

abbrev pub decreases-options : goal.decreases-options
decreases-options l = length l.rest
