use Rattle.std.proofs.Common.{◌≡◌, subst, List, true}
use Rattle.std.specs.Cmp.{eq_by_cmp_equiv}
use Rattle.std.specs.Ordering.{eq_by_cmp}
use Rattle.std.specs.Set.{is_member}
use Rattle.flow_refs.proofs.ApplyLaws.{still_idle}
use Rattle.flow_refs.proofs.PlaceLaws.{kept_on}
use Rattle.flow_refs.proofs.putting.clear_places.Goals as goal

pub places-preserved : goal.places-preserved
places-preserved g c =
    let cmp = g.O.Ord.cmp in
    let new = c.clear_place.new.origins.entries in
    record {
      idle = λ o h. still_idle cmp (eq_by_cmp_equiv g.met.O.Ord.total) new c.pop.new.self c.in-Some.origin o c.clear_place.ensures.gone h
          (subst (λ (l : List g.row.O.Denot). is_member (eq_by_cmp cmp) l o ≡ true) c.in-Some.ensures (c.places.invariant.idle o (c.clear_place.ensures.idle o h)));
      kept = kept_on g.F.PartialEq.eq cmp c.args.origins.now.entries c.places.origins.entries new c.places.invariant.kept c.clear_place.ensures.kept;
      once = c.clear_place.ensures.once;
    }
