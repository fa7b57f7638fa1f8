use Rattle.std.specs.Prelude.{◌≡◌, ◌++◌, drop}
use Rattle.northd_core.specs.Touched.{switches_in}
use Rattle.northd_core.proofs.touched.switches_in.Given as goal

-- the switches so far, and those of the units that are left
abbrev pub invariant-units : goal.invariant-units
invariant-units l = l.names ++ switches_in (drop l.unit-index l.units) ≡ switches_in l.units
