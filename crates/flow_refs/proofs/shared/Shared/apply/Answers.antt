use Rattle.std.proofs.Common.{◌∙◌, sym, ap, subst, List}
use Rattle.std.specs.Cmp.{eq_by_cmp_equiv}
use Rattle.std.specs.Map.{keys_of}
use Rattle.std.proofs.lemmas.Map.Keys.{IsDistinct-from_sorted}
use Rattle.indexmap.specs.IndexMap.{spare}
use Rattle.flow_refs.specs.Counts.{count_of, positive, HaveOnce}
use Rattle.flow_refs.specs.Origins.{flows_of, flows_after, IsDifference}
use Rattle.flow_refs.specs.Store.{Store, Prepared, AreIdleAmong, IsPreparedFor}
use Rattle.flow_refs.proofs.ApplyLaws.{once_put_all, idle_among, difference_alike}
use Rattle.flow_refs.proofs.PutLaws.{flows_put}
use Rattle.flow_refs.proofs.shared.Shared.apply.Goals as goal

pub clear_places-requires-clause-once : goal.clear_places-requires-clause-once
clear_places-requires-clause-once g c =
    let have_once = subst (λ (p : Prepared g.row.F.Denot g.row.O.Denot). HaveOnce g.F.PartialEq.eq p.changes) (sym c.patch.view_is) c.requires.have_once in
    subst (λ (l : List (g.row.O.Denot × List g.row.F.Denot)). HaveOnce g.F.PartialEq.eq l) (sym c.put_each.ensures)
    (once_put_all g.F.PartialEq.eq g.O.Ord.cmp c.self.inside.origins.entries c.patch.inside.changes c.self.invariant.once have_once)

pub clear_places-requires-clause-idle : goal.clear_places-requires-clause-idle
clear_places-requires-clause-idle g c =
    let eq = g.F.PartialEq.eq in
    let cmp = g.O.Ord.cmp in
    let es = c.self.inside.origins.entries in
    let places = c.self.inside.places in
    let prepared = subst (λ (p : Prepared g.row.F.Denot g.row.O.Denot). IsPreparedFor eq cmp (record { origins = es; counts = c.self.inside.counts.entries; room = spare c.self.inside.counts; idle = c.self.inside.places }) p) (sym c.patch.view_is)
    (subst (λ (s : Store g.row.F.Denot g.row.O.Denot). IsPreparedFor eq cmp s c.args.patch) (sym c.self.view_is) c.requires) in
    subst (λ (l : List (g.row.O.Denot × List g.row.F.Denot)). AreIdleAmong cmp l places) (sym c.put_each.ensures)
    (idle_among eq cmp (eq_by_cmp_equiv g.met.O.Ord.total) es c.patch.inside.changes places c.self.invariant.idle (IsDistinct-from_sorted cmp (keys_of es) c.len-once.ensures.ordered) prepared.each_once prepared.places)

pub invariant_of-self : goal.invariant_of-self
invariant_of-self g c =
    let eq = g.F.PartialEq.eq in
    let cmp = g.O.Ord.cmp in
    let prepared = subst (λ (p : Prepared g.row.F.Denot g.row.O.Denot). IsPreparedFor eq cmp (record { origins = c.self.inside.origins.entries; counts = c.self.inside.counts.entries; room = spare c.self.inside.counts; idle = c.self.inside.places }) p) (sym c.patch.view_is)
    (subst (λ (s : Store g.row.F.Denot g.row.O.Denot). IsPreparedFor eq cmp s c.args.patch) (sym c.self.view_is) c.requires) in
    record {
      counted = λ q. c.set_numbers.ensures q ∙ prepared.numbers q ∙ ap positive (sym (c.clear_places.ensures.kept.counts q ∙ ap (λ (l : List (g.row.O.Denot × List g.row.F.Denot)). count_of eq l q) c.put_each.ensures));
      once = c.clear_places.ensures.once;
      idle = λ o h. absurd (c.clear_places.ensures.idle o h);
    }

pub returns-clause-given : goal.returns-clause-given
returns-clause-given g c =
    let eq = g.F.PartialEq.eq in
    let cmp = g.O.Ord.cmp in
    let es = c.self.inside.origins.entries in
    let prepared = subst (λ (p : Prepared g.row.F.Denot g.row.O.Denot). IsPreparedFor eq cmp (record { origins = es; counts = c.self.inside.counts.entries; room = spare c.self.inside.counts; idle = c.self.inside.places }) p) (sym c.patch.view_is)
    (subst (λ (s : Store g.row.F.Denot g.row.O.Denot). IsPreparedFor eq cmp s c.args.patch) (sym c.self.view_is) c.requires) in
    λ o. c.clear_places.ensures.kept.flows o ∙ ap (λ (l : List (g.row.O.Denot × List g.row.F.Denot)). flows_of cmp l o) c.put_each.ensures
    ∙ flows_put cmp (eq_by_cmp_equiv g.met.O.Ord.total) es c.patch.inside.changes (IsDistinct-from_sorted cmp (keys_of es) c.len-once.ensures.ordered) prepared.each_once prepared.places o
    ∙ (λ i. flows_after cmp (c.self.view_is i).origins (c.patch.view_is i).changes o)

pub returns-clause-delta : goal.returns-clause-delta
returns-clause-delta g c =
    let eq = g.F.PartialEq.eq in
    let cmp = g.O.Ord.cmp in
    let before = flows_of cmp c.args.self.now.origins in
    let after = flows_of cmp c.clear_places.new.origins.entries in
    subst (λ (p : Prepared g.row.F.Denot g.row.O.Denot). IsDifference eq before after p.delta) (sym c.patch.view_is)
    (difference_alike eq before (flows_after cmp c.args.self.now.origins c.args.patch.changes) after (λ o. sym (returns-clause-given g c o)) c.args.patch.delta c.requires.delta)
