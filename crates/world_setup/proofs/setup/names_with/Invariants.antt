use Rattle.std.specs.Ordering.{nat_cmp}
use Rattle.std.specs.Cmp.Lexicographic.{slice_cmp}
use Rattle.std.specs.BTreeSet.{insert_key}
use Rattle.std.proofs.Common.{◌≡◌, ◌++◌, drop}
use Rattle.world_setup.proofs.setup.names_with.Given as goal

-- the names so far, and those that are left with the one that comes
abbrev pub invariant-names : goal.invariant-names
invariant-names l = l.longer ++ insert_key (slice_cmp nat_cmp) (drop l.index l.names) l.name ≡ insert_key (slice_cmp nat_cmp) l.names l.name
