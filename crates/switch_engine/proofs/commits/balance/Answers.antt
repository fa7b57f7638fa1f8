use Rattle.std.proofs.Common.{sym, ◌∙◌}
use Rattle.switch_engine.proofs.Begun.{balance_does, none_does}
use Rattle.switch_engine.proofs.commits.balance.Goals as goal

pub returns-clause-does : goal.returns-clause-does
returns-clause-does c =
    balance_does c.args.now c.in-Some.from (sym c.newcomer.ensures.tuple ∙ c.in-Some.is) c.args.vip c.args.backends.now c.in-Some-backend_in.backend c.towards-to.result c.reversed.result
    (sym c.is_balanced.ensures ∙ c.if-not-is_balanced.false) (sym c.backend_in.ensures ∙ c.in-Some-backend_in.is) c.towards-to.ensures c.reversed.ensures c.in_ok-push.ensures.ok c.in_ok-sent.ensures.does

pub returns-in_default-backend_in-clause-does : goal.returns-in_default-backend_in-clause-does
returns-in_default-backend_in-clause-does c =
    none_does c.args.now c.in-Some.from (sym c.newcomer.ensures.tuple ∙ c.in-Some.is) c.args.vip c.args.backends.now
    (sym c.is_balanced.ensures ∙ c.if-not-is_balanced.false) (sym c.backend_in.ensures ∙ c.in_default-backend_in.is) c.in_ok-drop_copy.ensures.effects
