use Rattle.std.proofs.Common.{◌∙◌, refl, sym, subst, List, [], ◌∷◌, ◌++◌, IsSome}
use Rattle.std.specs.BTreeMap.{is_at}
use Rattle.std.specs.List.{IsDistinct}
use Rattle.std.specs.Map.{lookup}
use Rattle.flow_refs.specs.Counts.{HaveOnce}
use Rattle.flow_refs.specs.Store.{AreSame, HavePlaces}
use Rattle.flow_refs.proofs.Lookups.{all_push, push_more, append_nil, nil_from_length}
use Rattle.flow_refs.proofs.PlaceLaws.{kept_on, places_stay}
use Rattle.flow_refs.proofs.placing.place_each.Goals as goal

pub given-preserved : goal.given-preserved
given-preserved g c =
    let eq = g.F.PartialEq.eq in
    let cmp = g.O.Ord.cmp in
    let changes = c.given.changes in
    let change : g.row.O.Denot × List g.row.F.Denot = (c.in-Some.origin, c.in_ok-flows.flows) in
    let old = c.given.origins.entries in
    let new = c.make_place.new.origins.entries in
    let push = c.in_ok-push.ensures.ok in
    let steps = c.in-Some.ensures.steps.0 in
    record {
      goes_on = tt;
      ends = tt;
      same = λ more h.
          subst (λ (l : List (g.row.O.Denot × List g.row.F.Denot)). AreSame eq c.args.given (l ++ more)) (sym push)
          (subst (λ (l : List (g.row.O.Denot × List g.row.F.Denot)). AreSame eq c.args.given l) (sym (push_more changes change more))
          (c.given.invariant.same (change ∷ more) (subst (λ (l : List (g.row.O.Denot × List g.row.F.Denot)). AreSame eq l (change ∷ more)) (sym steps) ((refl, c.in_ok-flows.ensures.same), h))));
      have_once = subst (λ (l : List (g.row.O.Denot × List g.row.F.Denot)). HaveOnce eq l) (sym push) (all_push (λ (e : g.row.O.Denot × List g.row.F.Denot). IsDistinct eq e.1) changes change c.given.invariant.have_once c.in_ok-flows.ensures.once);
      places = subst (λ (l : List (g.row.O.Denot × List g.row.F.Denot)). HavePlaces cmp new l) (sym push)
          (all_push (λ (e : g.row.O.Denot × List g.row.F.Denot). IsSome (lookup (is_at (cmp e.0)) new)) changes change (places_stay eq cmp old new changes c.make_place.ensures.places c.given.invariant.places) c.in_ok-make_place.ensures.place);
      stay = λ o some. c.make_place.ensures.places o (c.given.invariant.stay o some);
      kept = kept_on eq cmp c.args.origins.now.entries old new c.given.invariant.kept c.make_place.ensures.kept;
      once = c.make_place.ensures.once;
      idle = c.make_place.ensures.idle;
    }

pub returns-clause-same : goal.returns-clause-same
returns-clause-same g c =
    let eq = g.F.PartialEq.eq in
    let left = nil_from_length c.given.origin-iterator.rest.items (sym c.given.origin-iterator.rest.ok.0 ∙ c.in-None.ensures.steps.0) in
    subst (λ (l : List (g.row.O.Denot × List g.row.F.Denot)). AreSame eq c.args.given l) (append_nil c.given.changes)
    (c.given.invariant.same [] (subst (λ (l : List (g.row.O.Denot × List g.row.F.Denot)). AreSame eq l []) (sym left) tt))
