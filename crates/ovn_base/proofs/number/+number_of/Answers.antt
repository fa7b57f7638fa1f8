use Rattle.std.specs.Prelude.{◌≡◌, ◌<◌, ◌≤◌, ◌+◌, ◌*◌, ◌⊎◌, ℕ, List, length, Option, None, IfNone}
use Rattle.std.proofs.Common.{arith, rules, sym, subst, inl, inr}
use Rattle.ovn_base.proofs.DecimalLemmas.{NoNumber, none_where_long, none_where_empty, none_where_no_digit, none_where_no_tens, none_where_other, none_where_over, decimal_of_digit, decimal_with_digit}
use Rattle.ovn_base.proofs.number.+number_of.Goals as goal
use Rattle.ovn_base.proofs.number.+number_of.Goals.{then-tens-eq0-via-then-tens-eq0, then-tens-eq0-via-else-tens-eq0+then-last-most-2}

at_none : (text : List ℕ) (most : ℕ) (result : Option ℕ) → result ≡ None → NoNumber text most → IfNone result (NoNumber text most)
at_none text most result is_none none = subst (λ r. IfNone r (NoNumber text most)) (sym is_none) none

pub returns-then-text-gt20-clause-none : goal.returns-then-text-gt20-clause-none
returns-then-text-gt20-clause-none t c = none_where_long c.args.text.now c.args.most c.ranges.most.fits c.if-text-gt20.true

pub returns-in_err-last-clause-none : goal.returns-in_err-last-clause-none
returns-in_err-last-clause-none t c =
    at_none _ _ _ c.from_residual.ensures (none_where_empty c.args.text.now c.args.most c.ranges.most.fits c.in_err-last.ensures.cases)

pub returns-in_err-digit-clause-none : goal.returns-in_err-digit-clause-none
returns-in_err-digit-clause-none t c =
    at_none _ _ _ c.from_residual-in_err-digit.ensures (none_where_no_digit _ _ _ c.args.most c.ranges.most.fits c.in_ok-last.ensures.cases.0 c.in_err-digit.ensures.none)

pub returns-then-last-most-clause-found : goal.returns-then-last-most-clause-found
returns-then-last-most-clause-found t c =
    let digit = c.in_ok-digit.ensures.found in
    let empty : length c.in_ok-last.front.now ≡ 0 = search rules in
    rw c.from-last.ensures (omega (arith, c.from-last.ensures), decimal_of_digit _ _ _ _ c.in_ok-last.ensures.cases.0 empty digit.0 digit.1)

pub returns-else-last-most-clause-none : goal.returns-else-last-most-clause-none
returns-else-last-most-clause-none t c =
    let digit = c.in_ok-digit.ensures.found in
    let empty : length c.in_ok-last.front.now ≡ 0 = search rules in
    none_where_other _ _ _ c.args.most c.ranges.most.fits c.in_ok-last.ensures.cases.0 c.in_ok-digit.field-0 digit.1 empty (omega (arith, c.from-last.ensures))

pub returns-in_err-tens-clause-none : goal.returns-in_err-tens-clause-none
returns-in_err-tens-clause-none t c =
    let some : 0 < length c.in_ok-last.front.now = search rules in
    at_none _ _ _ c.from_residual-in_err-tens.ensures (none_where_no_tens _ _ _ c.args.most c.ranges.most.fits c.in_ok-last.ensures.cases.0 some c.in_err-tens.ensures.none)

pub returns-then-tens-eq0-clause-none : goal.returns-then-tens-eq0-clause-none
returns-then-tens-eq0-clause-none t c =
    let digit = c.in_ok-digit.ensures.found in
    let tens = c.in_ok-tens.ensures.found in
    let some : 0 < length c.in_ok-last.front.now = search rules in
    let over : (c.in_ok-tens.tens ≡ 0) ⊎ (c.args.most < 10 * c.in_ok-tens.tens + c.in_ok-digit.field-0) = elim c.then-tens-eq0.branch [
      | then-tens-eq0-via-then-tens-eq0 w ↦ inl w.if-tens-eq0.true
      | then-tens-eq0-via-else-tens-eq0+then-last-most-2 w ↦ inr (omega (arith, c.from-last.ensures, w.if-last-most-2.true))
    ] in
    none_where_over _ _ _ c.args.most c.ranges.most.fits c.in_ok-last.ensures.cases.0 c.in_ok-digit.field-0 c.in_ok-tens.tens digit.1 some tens.1 (omega arith) over

pub returns-clause-found : goal.returns-clause-found
returns-clause-found t c =
    let digit = c.in_ok-digit.ensures.found in
    let tens = c.in_ok-tens.ensures.found in
    let below : 10 * c.in_ok-tens.tens + c.in_ok-digit.field-0 ≤ c.args.most = omega (arith, c.from-last.ensures) in
    rw c.from-last.ensures (below, decimal_with_digit _ _ _ _ _ c.in_ok-last.ensures.cases.0 tens.1 digit.1 (omega arith) digit.0 (omega arith))
