use Rattle.std.proofs.Common.{refl, sym, subst, ◌∙◌}
use Rattle.ovn_base.specs.lists.Among.{here}
use Rattle.ovn_base.proofs.AmongLaws.{among_left, among_right}
use Rattle.tuple_space.specs.Turns.{IsByBound, HasTurn}
use Rattle.tuple_space.proofs.TurnLaws.{zero_under, turn_found, order_push}
use Rattle.tuple_space.proofs.turn_list.add_turn.Goals as goal

pub returns-then-is_some-clause-has : goal.returns-then-is_some-clause-has
returns-then-is_some-clause-has c =
    subst (λ l. HasTurn l c.args.number 0 0) c.as_slice.ensures.value (turn_found c.as_slice.result.now c.args.number c.index_of.result c.index_of.ensures.found (sym c.is_some.ensures ∙ c.if-is_some.true))

pub returns-clause-has : goal.returns-clause-has
returns-clause-has c =
    subst (λ l. HasTurn l c.args.number 0 0) (sym c.in_ok-push.ensures.items)
    (record { number = c.args.number; priority = 0; rank = 0 }, among_right _ c.args.turns.now.items _ here, refl, zero_under (record { number = c.args.number; priority = 0; rank = 0 }))

pub returns-clause-kept : goal.returns-clause-kept
returns-clause-kept c = λ n p r h.
    subst (λ l. HasTurn l n p r) (sym c.in_ok-push.ensures.items) (h.0, among_left h.0 c.args.turns.now.items _ h.1, h.2, h.3)

pub returns-clause-order : goal.returns-clause-order
returns-clause-order c = λ h.
    subst (λ l. IsByBound l) (sym c.in_ok-push.ensures.items) (order_push c.args.turns.now.items (record { number = c.args.number; priority = 0; rank = 0 }) refl refl h)
