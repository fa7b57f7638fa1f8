use Rattle.std.proofs.Common.{subst}
use Rattle.std.specs.Map.{keys_of}
use Rattle.std.proofs.lemmas.Map.Keys.{IsDistinct-from_sorted}
use Rattle.flow_refs.specs.Origins.{IsEachOnce}
use Rattle.flow_refs.specs.Store.{Store}
use Rattle.flow_refs.proofs.shared.Shared.counts_hold.Goals as goal

pub returns-clause-once : goal.returns-clause-once
returns-clause-once g c =
    subst (λ (s : Store g.row.F.Denot g.row.O.Denot). IsEachOnce g.O.Ord.cmp s.origins) c.self.view_is (IsDistinct-from_sorted g.O.Ord.cmp (keys_of c.self.inside.origins.entries) c.len-once.ensures.ordered)
