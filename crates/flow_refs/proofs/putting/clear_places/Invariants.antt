use Rattle.std.proofs.Common.{length}
use Rattle.flow_refs.specs.Counts.{HaveOnce}
use Rattle.flow_refs.specs.Store.{IsKept, AreIdleAmong}
use Rattle.flow_refs.proofs.putting.clear_places.Given as goal

-- all is kept, and the places without flows are those that are left
abbrev pub invariant-places : goal.invariant-places
invariant-places g l =
    let eq = g.F.PartialEq.eq in
    let cmp = g.O.Ord.cmp in
    record {
      idle : AreIdleAmong cmp l.origins.entries l.places;
      kept : IsKept eq cmp l.fn.origins.entries l.origins.entries;
      once : HaveOnce eq l.origins.entries;
    }

abbrev pub decreases-places : goal.decreases-places
decreases-places g l = length l.places
