use Rattle.std.specs.Prelude.{◌≡◌, ◌++◌}
use Rattle.northd_core.proofs.touched.push_all.Given as goal

-- the units so far, and those of the set that are left
abbrev pub invariant-units : goal.invariant-units
invariant-units l = l.units ++ l.unit-iterator ≡ l.fn.units ++ l.initial.unit-iterator
