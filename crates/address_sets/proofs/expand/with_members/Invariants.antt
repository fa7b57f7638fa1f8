use Rattle.std.proofs.Common.{◌≡◌, ◌++◌, map}
use Rattle.address_sets.proofs.expand.with_members.Given as goal

abbrev pub invariant-loop-name : goal.invariant-loop-name
invariant-loop-name g l = l.all ++ map (λ e. (e.0, g.V.HasMembers.members e.1)) l.name-iterator ≡ map (λ e. (e.0, g.V.HasMembers.members e.1)) l.entries.entries
