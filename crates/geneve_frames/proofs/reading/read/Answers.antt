use Rattle.geneve_frames.proofs.Faults.{answers_only, answers_first}
use Rattle.geneve_frames.proofs.reading.read.Goals as goal

pub returns-clause-only : goal.returns-clause-only
returns-clause-only c = answers_only c.args.frame.now c.answer.result c.answer.ensures

pub returns-clause-first : goal.returns-clause-first
returns-clause-first c = answers_first c.args.frame.now c.answer.result c.answer.ensures
