use Rattle.std.proofs.Common.{◌≡◌}
use Rattle.flow_refs.specs.Store.{put_all}
use Rattle.flow_refs.proofs.putting.put_each.Given as goal

-- what is left makes of the origins now what all the changes make of those at the beginning
abbrev pub invariant-changes : goal.invariant-changes
invariant-changes g l = put_all g.O.Ord.cmp l.origins.entries l.origin-iterator.rest.items ≡ put_all g.O.Ord.cmp l.fn.origins.entries l.fn.changes
