use Rattle.std.proofs.Common.{sym, ap, ◌∙◌}
use Rattle.switch_engine.specs.Commits.{begins, balances}
use Rattle.switch_engine.proofs.Doings.{does_same, of_op, by_zone}
use Rattle.switch_engine.proofs.actions.begin.Goals as goal

pub returns-in_ok-turn-in-Commit-clause-does : goal.returns-in_ok-turn-in-Commit-clause-does
returns-in_ok-turn-in-Commit-clause-does c = λ entry. of_op entry c.args.now c.in-Commit.is (by_zone c.in-Commit.zone c.zone_number-number.result c.zone_number-number.ensures c.in_ok-turn-in-Commit.ensures.does)

pub returns-in_ok-turn-in-Dnat-clause-does : goal.returns-in_ok-turn-in-Dnat-clause-does
returns-in_ok-turn-in-Dnat-clause-does c = λ entry. of_op entry c.args.now c.in-Dnat.is (by_zone c.in-Dnat.zone c.zone_number-number-in-Dnat.result c.zone_number-number-in-Dnat.ensures c.in_ok-turn-in-Dnat.ensures.does)

pub returns-in_ok-turn-in-Snat-clause-does : goal.returns-in_ok-turn-in-Snat-clause-does
returns-in_ok-turn-in-Snat-clause-does c = λ entry. of_op entry c.args.now c.in-Snat.is (by_zone c.in-Snat.zone c.zone_number-number-in-Snat.result c.zone_number-number-in-Snat.ensures c.in_ok-turn-in-Snat.ensures.does)

pub returns-in_ok-turn-in-Balance-clause-does : goal.returns-in_ok-turn-in-Balance-clause-does
returns-in_ok-turn-in-Balance-clause-does c = λ entry. of_op entry c.args.now c.in-Balance.is (by_zone c.in-Balance.zone c.zone_number-number-in-Balance.result c.zone_number-number-in-Balance.ensures
    (does_same (λ d x z. ap (λ bs. begins c.zone_number-number-in-Balance.result (balances c.args.now c.in-Balance.vip bs) d) (sym (c.as_slice.ensures ∙ c.get.ensures))) c.in_ok-turn-in-Balance.ensures.does))
