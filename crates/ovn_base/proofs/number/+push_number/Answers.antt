use Rattle.std.specs.Prelude.{◌++◌, ℕ, List}
use Rattle.std.proofs.Common.{ap, sym, ◌∙◌}
use Rattle.std.proofs.lemmas.Fmt.{decimal_digit}
use Rattle.ovn_base.proofs.DecimalLemmas.{pushed_digit}
use Rattle.ovn_base.proofs.number.+push_number.Goals as goal

pub returns-then-number-lt10-clause-ok : goal.returns-then-number-lt10-clause-ok
returns-then-number-lt10-clause-ok t c =
    c.in_ok-push.ensures.items ∙ ap (λ (xs : List ℕ). c.args.out.now.items ++ xs) (sym (decimal_digit c.args.number c.if-number-lt10.true))

pub returns-clause-ok : goal.returns-clause-ok
returns-clause-ok t c = pushed_digit _ _ _ c.args.number c.if-number-lt10.false c.ranges.number.fits c.in_ok-push_number.ensures.ok c.in_ok-push-2.ensures.items
