use Rattle.std.proofs.Common.{◌+◌, ◌∙◌, ◌∷◌, drop, ap, sym, subst}
use Rattle.std.proofs.lemmas.List.{drop_more, drop_all}
use Rattle.std.specs.List.Sorted.{IsStrictlySortedBy}
use Rattle.tunnel_keys.proofs.KeyOrder.{one_came, all_came, none_left}
use Rattle.tunnel_keys.proofs.retiring.in_order.Goals as goal

pub loop-key-preserved : goal.loop-key-preserved
loop-key-preserved g c =
    let held = c.args.held.now in
    let i = c.loop-key.key-index in
    let rest = drop (i + 1) held in
    let split = drop_more held i c.key-item.result c.loop-key-test.true ∙ ap (λ k. k ∷ rest) (sym c.key-item.is) in
    one_came g.H.Ord.cmp c.requires.exact held c.loop-key.sorted.keys c.insert.new.self.keys (drop i held) rest c.key-item.result c.loop-key.invariant split c.in_ok-insert.ensures.keys

pub returns-clause-order : goal.returns-clause-order
returns-clause-order g c =
    let whole = all_came c.loop-key-2.all c.loop-key-2.key-iterator c.into_iter-key-iterator.result c.loop-key.sorted.keys c.loop-key-2.invariant c.in-None.ensures.steps.0 c.into_iter-key-iterator.ensures.into_iter_gives.0 in
    subst (IsStrictlySortedBy g.H.Ord.cmp) (sym whole) c.into_iter-key-iterator.ensures.into_iter_gives.4

pub returns-clause-same : goal.returns-clause-same
returns-clause-same g c =
    let whole = all_came c.loop-key-2.all c.loop-key-2.key-iterator c.into_iter-key-iterator.result c.loop-key.sorted.keys c.loop-key-2.invariant c.in-None.ensures.steps.0 c.into_iter-key-iterator.ensures.into_iter_gives.0 in
    none_left c.args.held.now c.loop-key.sorted.keys c.loop-key-2.all (drop c.loop-key.key-index c.args.held.now) c.loop-key.invariant (drop_all c.loop-key.key-index c.args.held.now c.loop-key-test.false) whole
