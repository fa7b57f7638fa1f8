use Rattle.std.proofs.Common.{◌≡◌, ◌++◌, drop, map}
use Rattle.physical_flows.specs.Around.{around_everywhere}
use Rattle.physical_flows.specs.Compiling.{basis_of}
use Rattle.physical_flows.proofs.compile.Maps.around.Given as goal

-- the units so far, and those that are left, each with its rows
abbrev pub invariant-units : goal.invariant-units
invariant-units l =
    let b = basis_of l.self in
    l.rows ++ map (λ u. (u, around_everywhere b u)) (drop l.unit-index l.units) ≡ map (λ u. (u, around_everywhere b u)) l.units
