use Rattle.std.proofs.Common.{◌≡◌, ◌↔◌, ◌+◌, ◌++◌, ◌∷◌, [], take, sym, subst, ap, ◌∙◌}
use Rattle.std.proofs.lemmas.List.{take_more}
use Rattle.ovn_base.specs.lists.Among.{Among}
use Rattle.tuple_space.specs.Bunches.{flows_in}
use Rattle.tuple_space.proofs.EachLaws.{kept_more}
use Rattle.tuple_space.proofs.space.TupleSpace.take_out_each.Goals as goal

pub loop-flow-preserved : goal.loop-flow-preserved
loop-flow-preserved c =
    let more : take (c.loop-flow.flow-index + 1) c.args.flows.now ≡ take c.loop-flow.flow-index c.args.flows.now ++ c.flow-item.result ∷ [] = take_more c.args.flows.now c.loop-flow.flow-index c.flow-item.result c.loop-flow-test.true ∙ ap (λ f. take c.loop-flow.flow-index c.args.flows.now ++ f ∷ []) (sym c.flow-item.is) in
    record {
      masks = c.take_out.ensures.masks ∙ c.loop-flow.invariant.masks;
      turns = c.take_out.ensures.turns ∙ c.loop-flow.invariant.turns;
      kept = λ f. subst (λ l. Among f (flows_in c.take_out.new.self.bunches) ↔ (Among f (flows_in c.args.self.now.bunches) × ¬ Among f l)) (sym more) (kept_more (flows_in c.args.self.now.bunches) (flows_in c.loop-flow.self.bunches) (flows_in c.take_out.new.self.bunches) (take c.loop-flow.flow-index c.args.flows.now) c.flow-item.result f (c.loop-flow.invariant.kept f) (c.take_out.ensures.kept f));
      promised = λ k. c.take_out.ensures.promised k ∙ c.loop-flow.invariant.promised k;
    }
