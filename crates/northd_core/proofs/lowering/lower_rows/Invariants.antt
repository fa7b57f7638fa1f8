use Rattle.std.specs.Prelude.{◌≡◌, ◌++◌, drop}
use Rattle.std.specs.List.{AllByRecursion}
use Rattle.northd_core.specs.Listing.{HasCountedOn}
use Rattle.northd_core.specs.Lowering.{IsLowerable, flows_of_rows}
use Rattle.northd_core.proofs.lowering.lower_rows.Given as goal

-- the flows so far, and those of the rows that are left
abbrev pub invariant-rows : goal.invariant-rows
invariant-rows g l = record {
  flows : l.flows ++ flows_of_rows l.keys l.sets (drop l.row-index l.rows) l.datapath ≡ flows_of_rows l.keys l.sets l.rows l.datapath;
  can : AllByRecursion (IsLowerable l.keys l.sets l.datapath) (drop l.row-index l.rows);
  steps : HasCountedOn l.fn.steps l.steps;
}
