use Rattle.std.proofs.Common.{◌≡◌, ◌++◌, map, drop}
use Rattle.stage_rows.specs.Rows.{whole_number}
use Rattle.stage_rows.proofs.terms.field_among.Given as goal

-- the values so far, and those of the numbers that are left
abbrev pub invariant-numbers : goal.invariant-numbers
invariant-numbers l = l.values ++ map (whole_number l.field) (drop l.number-index l.numbers) ≡ map (whole_number l.field) l.numbers
