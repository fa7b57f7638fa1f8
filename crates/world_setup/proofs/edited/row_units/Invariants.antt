use Rattle.std.proofs.Common.{◌≡◌, ◌++◌, drop}
use Rattle.std.specs.List.{filter_map}
use Rattle.world_setup.specs.Touched.{row_unit}
use Rattle.world_setup.proofs.edited.row_units.Given as goal

-- the units so far, and those of the units that are left
abbrev pub invariant-touched : goal.invariant-touched
invariant-touched l = l.units ++ filter_map row_unit (drop l.unit-index l.touched) ≡ filter_map row_unit l.touched
