use Rattle.std.proofs.Common.{sym, ◌∙◌, arith}
use Rattle.match_language.proofs.Hexes.{hex_more, hex_over}
use Rattle.match_language.proofs.constant.digits_number.Goals as goal

pub returns-then-number : goal.returns-then-number
returns-then-number c = sym (hex_over c.args.digits.now c.loop-digit.digit-index c.loop-digit.number (omega (arith, c.loop-digit-test.true)) c.loop-digit.invariant c.if-number.true)

pub loop-digit-preserved : goal.loop-digit-preserved
loop-digit-preserved c =
    hex_more c.args.digits.now c.loop-digit.digit-index c.loop-digit.number c.from.result (omega (arith, c.loop-digit-test.true)) c.loop-digit.invariant
    (c.from.ensures ∙ c.in_ok-value.ensures.found.0)
