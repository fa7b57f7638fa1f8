use Rattle.std.proofs.Common.{◌↔◌, ◌⊎◌, ℕ, List}
use Rattle.ovn_base.specs.lists.Among.{Among}
use Rattle.address_sets.specs.Members.{HasOther}
use Rattle.address_sets.proofs.changed.put_differing.Given as goal

-- those that came, with those that are left, are all
abbrev pub invariant-loop-name : goal.invariant-loop-name
invariant-loop-name g l = (n : List ℕ) → (Among n l.fn.names.keys ⊎ HasOther g.V.HasMembers.members l.others.entries l.entries.entries n) ↔ (Among n l.names.keys ⊎ HasOther g.V.HasMembers.members l.others.entries l.name-iterator n)
