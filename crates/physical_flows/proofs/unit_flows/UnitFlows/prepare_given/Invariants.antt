use Rattle.std.proofs.Common.{◌≡◌, ◌++◌, drop}
use Rattle.physical_flows.specs.Compiling.{basis_of}
use Rattle.physical_flows.proofs.UnitStores.{rows_given}
use Rattle.physical_flows.proofs.unit_flows.UnitFlows.prepare_given.Given as goal

-- the units so far, and those that are left, each with all its rows
abbrev pub invariant-units : goal.invariant-units
invariant-units l =
    let b = basis_of l.maps in
    l.changes ++ rows_given b (drop l.unit-index l.given) ≡ rows_given b l.given
