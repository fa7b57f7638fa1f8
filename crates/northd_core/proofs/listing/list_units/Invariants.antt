use Rattle.std.specs.Prelude.{◌≡◌, ◌++◌}
use Rattle.stage_rows.specs.Units.{pairs_of_unit, rows_of}
use Rattle.northd_core.specs.Listing.{HasCountedOn, with_each}
use Rattle.northd_core.proofs.listing.list_units.Given as goal

abbrev pub invariant-units : goal.invariant-units
invariant-units g l =
    (l.flows ++ with_each (rows_of l.records) l.unit-iterator ≡ with_each (rows_of l.records) l.units.keys)
    × (l.pairs ++ with_each (pairs_of_unit l.records) l.unit-iterator ≡ with_each (pairs_of_unit l.records) l.units.keys)
    × HasCountedOn l.fn.steps l.steps
