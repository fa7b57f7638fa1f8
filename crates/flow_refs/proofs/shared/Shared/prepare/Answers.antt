use Rattle.std.proofs.Common.{◌∙◌, ◌≤◌, ℕ, refl, sym, ap, subst, arith, List, length}
use Rattle.std.specs.Cmp.{eq_by_cmp_equiv}
use Rattle.std.specs.List.{IsDistinct}
use Rattle.std.specs.Map.{keys_of, lookup}
use Rattle.std.specs.Ordering.{eq_by_cmp}
use Rattle.std.proofs.lemmas.Map.Keys.{IsDistinct-from_sorted}
use Rattle.indexmap.specs.IndexMap.{spare}
use Rattle.flow_refs.specs.Counts.{positive}
use Rattle.flow_refs.specs.Store.{IsPreparedFor}
use Rattle.flow_refs.proofs.ApplyLaws.{prepared_for, same_origins}
use Rattle.flow_refs.proofs.StayLaws.{as_great, stays_prepared}
use Rattle.flow_refs.proofs.shared.Shared.prepare.Goals as goal

pub new_numbers-requires-clause-each_once : goal.new_numbers-requires-clause-each_once
new_numbers-requires-clause-each_once g c =
    subst (λ (os : List g.row.O.Denot). IsDistinct (eq_by_cmp g.O.Ord.cmp) os) (sym (same_origins g.F.PartialEq.eq c.args.changes c.in_ok-changes.changes c.in_ok-changes.ensures.same)) c.requires.once

pub invariant_of-self-in_err-reserve : goal.invariant_of-self-in_err-reserve
invariant_of-self-in_err-reserve g c =
    let eq = g.F.PartialEq.eq in
    record {
      counted = λ q. ap (λ (l : List (g.row.F.Denot × ℕ)). lookup (eq q) l) c.reserve.ensures.entries ∙ c.self.invariant.counted q ∙ ap positive (sym (c.place_each-placed.ensures.kept.counts q));
      once = c.place_each-placed.ensures.once;
      idle = c.place_each-placed.ensures.idle;
    }

pub returns-clause-prepared : goal.returns-clause-prepared
returns-clause-prepared g c =
    let eq = g.F.PartialEq.eq in
    let cmp = g.O.Ord.cmp in
    let es = c.place_each-placed.new.origins.entries in
    let counts = c.self.inside.counts.entries in
    let room = spare c.reserve.new.self in
    let idle = c.place_each-placed.new.places in
    let changes = c.in_ok-changes.changes in
    let numbers = c.in_ok-numbers.numbers in
    let enough : length numbers ≤ room = omega (arith, c.in_ok-reserve.ensures.ok) in
    subst (λ (l : List (g.row.F.Denot × ℕ)). IsPreparedFor eq cmp (record { origins = es; counts = l; room = room; idle = idle }) (record { changes = changes; numbers = numbers; delta = c.in_ok-delta.delta })) (sym c.in_ok-reserve.ensures.entries)
    (prepared_for eq cmp (eq_by_cmp_equiv g.met.O.Ord.total) g.met.F.Eq.laws es counts room idle changes numbers c.in_ok-delta.delta
    (IsDistinct-from_sorted cmp (keys_of es) c.len-still_once.ensures.ordered)
    (λ q. c.self.invariant.counted q ∙ ap positive (sym (c.place_each-placed.ensures.kept.counts q)))
    (subst (λ (os : List g.row.O.Denot). IsDistinct (eq_by_cmp cmp) os) (sym (same_origins eq c.args.changes changes c.in_ok-changes.ensures.same)) c.requires.once) c.in_ok-changes.ensures.have_once c.in_ok-changes.ensures.places
    c.in_ok-numbers.ensures.once c.in_ok-numbers.ensures.numbers c.in_ok-delta.ensures.added c.in_ok-delta.ensures.removed enough)

pub returns-in_err-changes-clause-stays : goal.returns-in_err-changes-clause-stays
returns-in_err-changes-clause-stays g c =
    let cmp = g.O.Ord.cmp in
    stays_prepared g.F.PartialEq.eq cmp (eq_by_cmp_equiv g.met.O.Ord.total) c.self.view_is
    (IsDistinct-from_sorted cmp (keys_of c.self.inside.origins.entries) c.len-once.ensures.ordered) (IsDistinct-from_sorted cmp (keys_of c.place_each-placed.new.origins.entries) c.len-still_once.ensures.ordered)
    c.place_each-placed.ensures.kept c.place_each-placed.ensures.stay refl (as_great (spare c.self.inside.counts))

pub returns-in_err-numbers-clause-stays : goal.returns-in_err-numbers-clause-stays
returns-in_err-numbers-clause-stays g c =
    let cmp = g.O.Ord.cmp in
    stays_prepared g.F.PartialEq.eq cmp (eq_by_cmp_equiv g.met.O.Ord.total) c.self.view_is
    (IsDistinct-from_sorted cmp (keys_of c.self.inside.origins.entries) c.len-once.ensures.ordered) (IsDistinct-from_sorted cmp (keys_of c.place_each-placed.new.origins.entries) c.len-still_once.ensures.ordered)
    c.place_each-placed.ensures.kept c.place_each-placed.ensures.stay refl (as_great (spare c.self.inside.counts))

pub returns-in_err-delta-clause-stays : goal.returns-in_err-delta-clause-stays
returns-in_err-delta-clause-stays g c =
    let cmp = g.O.Ord.cmp in
    stays_prepared g.F.PartialEq.eq cmp (eq_by_cmp_equiv g.met.O.Ord.total) c.self.view_is
    (IsDistinct-from_sorted cmp (keys_of c.self.inside.origins.entries) c.len-once.ensures.ordered) (IsDistinct-from_sorted cmp (keys_of c.place_each-placed.new.origins.entries) c.len-still_once.ensures.ordered)
    c.place_each-placed.ensures.kept c.place_each-placed.ensures.stay refl (as_great (spare c.self.inside.counts))

pub returns-in_err-reserve-clause-stays : goal.returns-in_err-reserve-clause-stays
returns-in_err-reserve-clause-stays g c =
    let cmp = g.O.Ord.cmp in
    stays_prepared g.F.PartialEq.eq cmp (eq_by_cmp_equiv g.met.O.Ord.total) c.self.view_is
    (IsDistinct-from_sorted cmp (keys_of c.self.inside.origins.entries) c.len-once.ensures.ordered) (IsDistinct-from_sorted cmp (keys_of c.place_each-placed.new.origins.entries) c.len-still_once.ensures.ordered)
    c.place_each-placed.ensures.kept c.place_each-placed.ensures.stay c.reserve.ensures.entries c.reserve.ensures.room.0

pub returns-clause-stays : goal.returns-clause-stays
returns-clause-stays g c =
    let cmp = g.O.Ord.cmp in
    stays_prepared g.F.PartialEq.eq cmp (eq_by_cmp_equiv g.met.O.Ord.total) c.self.view_is
    (IsDistinct-from_sorted cmp (keys_of c.self.inside.origins.entries) c.len-once.ensures.ordered) (IsDistinct-from_sorted cmp (keys_of c.place_each-placed.new.origins.entries) c.len-still_once.ensures.ordered)
    c.place_each-placed.ensures.kept c.place_each-placed.ensures.stay c.reserve.ensures.entries c.reserve.ensures.room.0
