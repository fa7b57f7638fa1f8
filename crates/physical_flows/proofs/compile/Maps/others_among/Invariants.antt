use Rattle.std.proofs.Common.{◌≡◌, ◌++◌, drop, filter}
use Rattle.physical_flows.specs.Compiling.{basis_of}
use Rattle.physical_flows.specs.TableList.{is_other_among, others_among}
use Rattle.physical_flows.proofs.compile.Maps.others_among.Given as goal

-- the chassis so far, and those among the ones that are left
abbrev pub invariant-all : goal.invariant-all
invariant-all l =
    let b = basis_of l.self in
    l.others ++ filter (λ c. is_other_among b l.homes c) (drop l.chassis-index b.all) ≡ others_among b l.homes
