use Rattle.std.proofs.Common.{◌≡◌, ◌≤◌, ◌∷◌, arith, sym, subst, ap, ◌∙◌}
use mathlib.Core.Logic.{inl, inr}
use Rattle.ovn_base.specs.lists.Among.{Among, here, there}
use Rattle.ovn_base.specs.lists.Once.{EachOnce}
use Rattle.ovn_base.proofs.AmongLaws.{among_cases, among_none}
use Rattle.flow_table.specs.declared.flow.Flow.{Flow}
use Rattle.tuple_space.specs.Bunches.{promised_under}
use Rattle.tuple_space.specs.Space.{key_in, count_under}
use Rattle.tuple_space.proofs.EachLaws.{count_first, nothing_left}
use Rattle.tuple_space.proofs.space.TupleSpace.put_each.Goals as goal

pub put-requires-clause-served : goal.put-requires-clause-served
put-requires-clause-served c =
    let steps = c.in-Some.ensures.steps.0 in
    c.loop-flow.invariant.served c.in-Some.flow (subst (λ l. Among c.in-Some.flow l) (sym steps) here)

pub put-requires-clause-room : goal.put-requires-clause-room
put-requires-clause-room c =
    let steps = c.in-Some.ensures.steps.0 in
    let ms = c.loop-flow.self.masks in
    count_first ms c.in-Some.flow c.next.new.self.rest.items (promised_under c.loop-flow.self.bunches (key_in ms c.in-Some.flow))
    (subst (λ l. count_under ms (key_in ms c.in-Some.flow) l ≤ promised_under c.loop-flow.self.bunches (key_in ms c.in-Some.flow)) steps (c.loop-flow.invariant.room (key_in ms c.in-Some.flow)))

pub put-requires-clause-fresh : goal.put-requires-clause-fresh
put-requires-clause-fresh c =
    let steps = c.in-Some.ensures.steps.0 in
    c.loop-flow.invariant.fresh c.in-Some.flow (subst (λ l. Among c.in-Some.flow l) (sym steps) here)

pub loop-flow-preserved : goal.loop-flow-preserved
loop-flow-preserved c =
    let steps = c.in-Some.ensures.steps.0 in
    let rest = c.next.new.self.rest.items in
    let x = c.in-Some.flow in
    let once = subst (λ l. EachOnce l) steps c.loop-flow.invariant.once in
    let left = λ (f : Flow). λ (m : Among f rest). subst (λ l. Among f l) (sym steps) (there m) in
    record {
      once = once.1;
      served = λ f m. c.put.ensures.stays f 0 0 (c.loop-flow.invariant.served f (left f m));
      room = λ k.
          let was = subst (λ l. count_under c.loop-flow.self.masks k l ≤ promised_under c.loop-flow.self.bunches k) steps (c.loop-flow.invariant.room k) in
          let now = c.put.ensures.promised k in
          let same : count_under c.put.new.self.masks k rest ≡ count_under c.loop-flow.self.masks k rest = ap (λ m. count_under m k rest) c.put.ensures.masks in
          omega (arith, was, now, same);
      fresh = λ f m h. elim ((c.put.ensures.held f).0 h) [ inl e ↦ once.0 (subst (λ g. Among g rest) e m) | inr a ↦ c.loop-flow.invariant.fresh f (left f m) a ];
      all = λ f. (
        λ m. (c.loop-flow.invariant.all f).0 (elim m [ inl a ↦ inl (left f a) | inr b ↦ elim ((c.put.ensures.held f).0 b) [ inl e ↦ inl (subst (λ l. Among f l) (sym steps) (subst (λ g. Among g (x ∷ rest)) (sym e) here)) | inr n ↦ inr n ] ]),
        λ m. elim ((c.loop-flow.invariant.all f).1 m) [
          | inl a ↦ elim (among_cases f x rest (subst (λ l. Among f l) steps a)) [ inl e ↦ inr ((c.put.ensures.held f).1 (inl e)) | inr n ↦ inl n ]
          | inr b ↦ inr ((c.put.ensures.held f).1 (inr b))
        ],
      );
    }

pub returns : goal.returns
returns c = λ f.
    let none = nothing_left c.loop-flow.flow-iterator.rest.items (sym c.loop-flow.flow-iterator.rest.ok.0 ∙ c.in-None.ensures.steps.0) in (
      λ m. (c.loop-flow.invariant.all f).0 (inr m),
      λ m. elim ((c.loop-flow.invariant.all f).1 m) [ inl a ↦ absurd (among_none f (subst (λ l. Among f l) none a)) | inr b ↦ b ],
    )
