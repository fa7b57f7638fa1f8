use Rattle.std.proofs.Common.{sym, subst, ◌∙◌}
use Rattle.std.proofs.lemmas.List.{take_all}
use mathlib.Core.Logic.{inl, inr}
use Rattle.ovn_base.specs.lists.Among.{Among}
use Rattle.tuple_space.specs.Space.{IsServed}
use Rattle.tuple_space.proofs.RankLaws.{among_more}
use Rattle.tuple_space.proofs.space.TupleSpace.serve_each.Goals as goal

pub loop-flow-preserved : goal.loop-flow-preserved
loop-flow-preserved c = record {
  served = λ f m. elim (among_more c.args.flows.now c.loop-flow.flow-index c.flow-item.result f c.loop-flow-test.true m) [
    | inl a ↦ c.in_ok-serve.ensures.stays f 0 0 (c.loop-flow.invariant.served f a)
    | inr e ↦ subst (λ g. IsServed c.serve.new.self.masks c.serve.new.self.turns g 0 0) (c.flow-item.is ∙ sym e) c.in_ok-serve.ensures.served
  ];
  bunches = c.in_ok-serve.ensures.bunches ∙ c.loop-flow.invariant.bunches;
}

pub returns-clause-served : goal.returns-clause-served
returns-clause-served c = λ f m. c.loop-flow.invariant.served f (subst (λ l. Among f l) (sym (take_all c.loop-flow.flow-index c.args.flows.now c.loop-flow-test.false)) m)
