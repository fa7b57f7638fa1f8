use Rattle.std.proofs.Common.{subst}
use Rattle.tuple_space.specs.Bunches.{AreBunches}
use Rattle.tuple_space.proofs.buckets.Buckets.hold.Goals as goal

pub returns : goal.returns
returns c = subst (λ v. AreBunches v) c.self.view_is c.self.invariant
