use Rattle.std.proofs.Common.{◌≡◌, ◌++◌, drop}
use Rattle.conn_zones.specs.Giving.{numbers_in}
use Rattle.conn_zones.proofs.giving.push_numbers.Given as goal

-- what is left comes behind what was taken so far
abbrev pub invariant-places : goal.invariant-places
invariant-places l = l.taken ++ numbers_in (drop l.place-index l.places) l.chassis ≡ l.fn.taken ++ numbers_in l.places l.chassis
