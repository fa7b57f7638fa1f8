use Rattle.std.proofs.Common.{◌≡◌, ◌∙◌, ◌⊎◌, arith, length, sym}
use Rattle.ovn_base.proofs.NameOrder.{order_behind}
use Rattle.ovn_base.proofs.name.order_of.Goals as goal

pub returns : goal.returns
returns c =
    let text = c.args.text.now in
    let other = c.args.other.now in
    let end : (c.bytes.at ≡ length text) ⊎ (c.bytes.at ≡ length other) = grind (arith, c.min-at-end.ensures, c.bytes.auto.at-end, c.bytes-test.false) in
    c.cmp-2.ensures ∙ sym (order_behind text other c.bytes.at (omega (arith, c.min-at-end.ensures)) (omega (arith, c.min-at-end.ensures)) end) ∙ sym c.bytes.invariant
