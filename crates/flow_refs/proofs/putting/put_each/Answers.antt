use Rattle.std.proofs.Common.{◌∙◌, sym, ap, List}
use Rattle.flow_refs.specs.Store.{put_all}
use Rattle.flow_refs.proofs.putting.put_each.Goals as goal

pub changes-preserved : goal.changes-preserved
changes-preserved g c =
    let cmp = g.O.Ord.cmp in
    ap (λ (es : List (g.row.O.Denot × List g.row.F.Denot)). put_all cmp es c.next.new.self.rest.items) c.put.ensures.entries
    ∙ ap (λ (cs : List (g.row.O.Denot × List g.row.F.Denot)). put_all cmp c.changes.origins.entries cs) (sym c.in-Some.ensures.steps.0) ∙ c.changes.invariant
