use Rattle.std.proofs.Common.{drop}
use Rattle.conn_zones.specs.Zoning.{GivenNumbers}
use Rattle.conn_zones.specs.Giving.{AreGiven, HaveNumbers}
use Rattle.conn_zones.proofs.giving.give_each.Given as goal

-- what those that are left make of the numbers now, all make of those at the beginning
abbrev pub invariant-zones : goal.invariant-zones
invariant-zones l = record {
  few : HaveNumbers l.numbers (drop l.zone-index l.zones);
  given : (after : GivenNumbers) → AreGiven l.numbers (drop l.zone-index l.zones) after → AreGiven l.fn.numbers l.zones after;
}
