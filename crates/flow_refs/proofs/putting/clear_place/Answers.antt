use Rattle.std.proofs.Common.{sym, subst, List}
use Rattle.std.specs.BTreeMap.{is_at}
use Rattle.std.specs.Cmp.{eq_by_cmp_equiv}
use Rattle.flow_refs.specs.Counts.{HaveOnce}
use Rattle.flow_refs.proofs.CountLaws.{once_removed}
use Rattle.flow_refs.proofs.PlaceLaws.{cleared}
use Rattle.flow_refs.proofs.putting.clear_place.Goals as goal

pub returns-then-is_idle-clause-kept : goal.returns-then-is_idle-clause-kept
returns-then-is_idle-clause-kept g c =
    cleared g.F.PartialEq.eq g.O.Ord.cmp (eq_by_cmp_equiv g.met.O.Ord.total) c.args.origins.now.entries c.remove.new.self.entries c.args.origin.now (c.is_idle.ensures.0 c.if-is_idle.true) c.remove.ensures.entries c.remove.ensures.updates.0

pub returns-then-is_idle-clause-once : goal.returns-then-is_idle-clause-once
returns-then-is_idle-clause-once g c =
    subst (λ (l : List (g.row.O.Denot × List g.row.F.Denot)). HaveOnce g.F.PartialEq.eq l) (sym c.remove.ensures.entries) (once_removed g.F.PartialEq.eq (is_at (g.O.Ord.cmp c.args.origin.now)) c.args.origins.now.entries c.requires.once)
