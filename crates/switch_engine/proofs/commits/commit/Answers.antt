use Rattle.std.proofs.Common.{sym, ◌∙◌}
use Rattle.switch_engine.proofs.Begun.{commit_does}
use Rattle.switch_engine.proofs.commits.commit.Goals as goal

pub returns-clause-does : goal.returns-clause-does
returns-clause-does c = commit_does c.args.now c.in-Some.from (sym c.newcomer.ensures.tuple ∙ c.in-Some.is) c.reversed.result c.reversed.ensures c.in_ok-turn.ensures.does
