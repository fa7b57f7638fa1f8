use Rattle.std.proofs.Common.{sym, ◌∙◌, refl}
use Rattle.conn_table.specs.Picks.{to_address}
use Rattle.switch_engine.proofs.Begun.{dnat_does}
use Rattle.switch_engine.proofs.commits.dnat.Goals as goal

pub returns-clause-does : goal.returns-clause-does
returns-clause-does c = dnat_does c.args.now c.in-Some.from (sym c.newcomer.ensures.tuple ∙ c.in-Some.is) c.args.ip (to_address c.args.ip c.in-Some.from) c.reversed.result refl c.reversed.ensures c.in_ok-turn.ensures.does
