use Rattle.std.proofs.Common.{◌≡◌, ◌++◌, map, drop}
use Rattle.stage_rows.specs.Rows.{prefix_value}
use Rattle.stage_rows.proofs.terms.ip_in_some.Given as goal

-- the values so far, and those of the prefixes that are left
abbrev pub invariant-prefixes : goal.invariant-prefixes
invariant-prefixes l = l.values ++ map prefix_value (drop l.prefix-index l.prefixes) ≡ map prefix_value l.prefixes
