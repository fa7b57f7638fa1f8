use Rattle.std.proofs.Common.{◌++◌, IsSome}
use Rattle.std.specs.BTreeMap.{is_at}
use Rattle.std.specs.Map.{lookup}
use Rattle.flow_refs.specs.Counts.{HaveOnce}
use Rattle.flow_refs.specs.Store.{AreSame, HavePlaces, IsKept, AreIdleAmong}
use Rattle.flow_refs.proofs.placing.place_each.Given as goal

-- with what is left, the changes are those that are given, and those so far have places
abbrev pub invariant-given : goal.invariant-given
invariant-given g l =
    let eq = g.F.PartialEq.eq in
    let cmp = g.O.Ord.cmp in
    let left = l.origin-iterator.rest.items in
    record {
      goes_on : (goal.iterator-given g).can_next l.origin-iterator;
      ends : (goal.iterator-given g).is_finite l.origin-iterator;
      same : (more : _) → AreSame eq left more → AreSame eq l.fn.given (l.changes ++ more);
      have_once : HaveOnce eq l.changes;
      places : HavePlaces cmp l.origins.entries l.changes;
      stay : (o : _) → IsSome (lookup (is_at (cmp o)) l.fn.origins.entries) → IsSome (lookup (is_at (cmp o)) l.origins.entries);
      kept : IsKept eq cmp l.fn.origins.entries l.origins.entries;
      once : HaveOnce eq l.origins.entries;
      idle : AreIdleAmong cmp l.origins.entries l.places;
    }
