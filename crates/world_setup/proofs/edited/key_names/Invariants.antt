use Rattle.std.proofs.Common.{◌≡◌, ◌++◌, drop, map}
use Rattle.world_setup.specs.KeyLines.{key_name}
use Rattle.world_setup.proofs.edited.key_names.Given as goal

-- the names so far, and those of the owners that are left
abbrev pub invariant-owners : goal.invariant-owners
invariant-owners l = l.names ++ map (key_name l.keys) (drop l.owner-index l.added) ≡ map (key_name l.keys) l.added
