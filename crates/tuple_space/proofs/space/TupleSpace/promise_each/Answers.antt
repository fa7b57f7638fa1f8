use Rattle.std.proofs.Common.{◌≡◌, ◌+◌, ◌++◌, ◌∷◌, [], cond, nat_eq, take, arith, sym, ap, ◌∙◌}
use Rattle.std.proofs.lemmas.List.{take_more}
use Rattle.std.specs.Cmp.Lexicographic.{pointwise}
use Rattle.tuple_space.specs.Bunches.{promised_under}
use Rattle.tuple_space.specs.Space.{key_in, count_under}
use Rattle.tuple_space.proofs.EachLaws.{count_push}
use Rattle.tuple_space.proofs.space.TupleSpace.promise_each.Goals as goal

pub loop-flow-preserved : goal.loop-flow-preserved
loop-flow-preserved c =
    let more : take (c.loop-flow.flow-index + 1) c.args.flows.now ≡ take c.loop-flow.flow-index c.args.flows.now ++ c.flow-item.result ∷ [] = take_more c.args.flows.now c.loop-flow.flow-index c.flow-item.result c.loop-flow-test.true ∙ ap (λ f. take c.loop-flow.flow-index c.args.flows.now ++ f ∷ []) (sym c.flow-item.is) in
    record {
      masks = c.in_ok-promise.ensures.masks ∙ c.loop-flow.invariant.masks;
      turns = c.in_ok-promise.ensures.turns ∙ c.loop-flow.invariant.turns;
      flows = c.in_ok-promise.ensures.flows ∙ c.loop-flow.invariant.flows;
      room = λ k.
          let ms = c.args.self.now.masks in
          let count : count_under ms k (take (c.loop-flow.flow-index + 1) c.args.flows.now) ≡ count_under ms k (take c.loop-flow.flow-index c.args.flows.now) + cond (pointwise nat_eq (key_in ms c.flow-item.result) k) 1 0 = ap (λ l. count_under ms k l) more ∙ count_push ms k (take c.loop-flow.flow-index c.args.flows.now) c.flow-item.result in
          let now : promised_under c.promise.new.self.bunches k ≡ promised_under c.loop-flow.self.bunches k + cond (pointwise nat_eq (key_in ms c.flow-item.result) k) 1 0 = c.in_ok-promise.ensures.promised k ∙ ap (λ m. promised_under c.loop-flow.self.bunches k + cond (pointwise nat_eq (key_in m c.flow-item.result) k) 1 0) c.loop-flow.invariant.masks in
          let before = c.loop-flow.invariant.room k in
          omega (arith, count, now, before);
    }
