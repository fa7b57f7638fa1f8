use Rattle.std.proofs.Common.{◌≡◌, ◌++◌}
use Rattle.address_sets.proofs.changed.listed.Given as goal

abbrev pub invariant-loop-name : goal.invariant-loop-name
invariant-loop-name l = l.all ++ l.name-iterator ≡ l.initial.name-iterator
