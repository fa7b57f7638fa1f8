use Rattle.std.proofs.Common.{◌≡◌, ◌++◌}
use Rattle.std.specs.Map.{keys_of}
use Rattle.world_setup.proofs.edited.push_rules.Given as goal

-- the rules so far, and those that are left
abbrev pub invariant-rules : goal.invariant-rules
invariant-rules l = l.rules ++ keys_of l.name-iterator ≡ l.fn.rules ++ keys_of l.records.acls
