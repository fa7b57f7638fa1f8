use Rattle.std.proofs.Common.{sym, subst, ◌∙◌}
use Rattle.ovn_base.specs.lists.Once.{EachOnce}
use Rattle.tuple_space.specs.Bunches.{flows_in}
use Rattle.tuple_space.proofs.BunchLaws.{in_once}
use Rattle.tuple_space.proofs.space.TupleSpaceLookup.flow.Goals as goal

pub returns-clause-once : goal.returns-clause-once
returns-clause-once c =
    subst (λ v. EachOnce (flows_in v.bunches)) c.self.view_is
    (in_once c.self.inside.buckets c.hold.ensures.keys c.hold.ensures.once (λ key other f m n. (c.self.invariant.filed key f m).0 ∙ sym (c.self.invariant.filed other f n).0))
