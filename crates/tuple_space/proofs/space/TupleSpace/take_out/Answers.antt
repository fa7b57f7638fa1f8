use Rattle.std.proofs.Common.{◌≡◌, ◌↔◌, subst, ◌∙◌}
use Rattle.ovn_base.specs.lists.Among.{Among}
use Rattle.tuple_space.specs.Bunches.{flows_in}
use Rattle.tuple_space.specs.Space.{key_in}
use Rattle.tuple_space.proofs.SpaceLaws.{kept_all}
use Rattle.tuple_space.proofs.space.TupleSpace.take_out.Goals as goal

pub returns-clause-kept : goal.returns-clause-kept
returns-clause-kept c = λ f.
    let ms = c.self.inside.masks in
    let is : c.as_slice.result.now ≡ key_in ms c.args.flow.now = c.as_slice.ensures.value ∙ c.write_key.ensures.key in
    subst (λ v. Among f (flows_in c.take_out.new.self) ↔ (Among f (flows_in v.bunches) × ¬ (f ≡ c.args.flow.now))) c.self.view_is
    (kept_all ms c.self.inside.turns c.self.inside.buckets c.take_out.new.self c.self.invariant.filed c.hold.ensures c.hold-2.ensures c.args.flow.now c.as_slice.result.now is c.take_out.ensures.kept f)
