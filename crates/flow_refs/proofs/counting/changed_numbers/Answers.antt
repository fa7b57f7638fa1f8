use Rattle.std.proofs.Common.{◌∙◌, ◌<◌, ◌^◌, ℕ, sym, ap, subst, arith, List, [], unwrap_or, length}
use Rattle.std.specs.BTreeMap.{is_at}
use Rattle.std.specs.Cmp.{eq_by_cmp_equiv}
use Rattle.std.specs.Map.{keys_of}
use Rattle.std.proofs.lemmas.Map.Keys.{IsDistinct-from_sorted}
use Rattle.flow_refs.specs.Counts.{count_of}
use Rattle.flow_refs.proofs.CountLaws.{once_at}
use Rattle.flow_refs.proofs.Midway.{IsMidway, none_counted, one_counted, enough, few_enough}
use Rattle.flow_refs.proofs.Numbers.{positive_back}
use Rattle.flow_refs.proofs.counting.changed_numbers.Goals as goal

pub changes-init : goal.changes-init
changes-init g c =
    let eq = g.F.PartialEq.eq in
    let cmp = g.O.Ord.cmp in
    let laws = eq_by_cmp_equiv g.met.O.Ord.total in
    let es = c.args.origins.now.entries in
    let counts = c.args.counts.now.entries in
    let changes = c.args.changes.now in
    let few : length es < 2 ^ 63 = omega (arith, c.len-few.ensures.len, c.len-few.ensures.small) in
    let start = none_counted eq cmp laws es counts changes (λ q. ap (λ o. unwrap_or o 0) (c.requires.counted q) ∙ positive_back (count_of eq es q)) (IsDistinct-from_sorted cmp (keys_of es) c.len-few.ensures.ordered) few c.requires.places c.requires.each_once c.requires.have_once in
    let numbers = sym c.new-numbers.ensures.empty in
    let left = sym c.into_iter-origin-iterator.ensures.into_iter_gives.0 in
    record {
      goes_on = tt;
      ends = tt;
      midway = subst (λ (ns : List (g.row.F.Denot × ℕ)). IsMidway eq cmp es counts changes ns c.into_iter-origin-iterator.result.rest.now) numbers (subst (λ (l : List (g.row.O.Denot × List g.row.F.Denot)). IsMidway eq cmp es counts changes [] l) left start);
    }

pub change_numbers-requires-clause-before_once : goal.change_numbers-requires-clause-before_once
change_numbers-requires-clause-before_once g c =
    once_at g.F.PartialEq.eq (is_at (g.O.Ord.cmp c.in-Some.field-0.now.0)) c.args.origins.now.entries c.in-Some-get.before.now c.requires.once (sym c.in-Some-get.ensures.value)

pub change_numbers-requires-clause-some : goal.change_numbers-requires-clause-some
change_numbers-requires-clause-some g c =
    let eq = g.F.PartialEq.eq in
    let cmp = g.O.Ord.cmp in
    let laws = eq_by_cmp_equiv g.met.O.Ord.total in
    let es = c.args.origins.now.entries in
    let counts = c.args.counts.now.entries in
    let changes = c.args.changes.now in
    let midway = subst (λ (l : List (g.row.O.Denot × List g.row.F.Denot)). IsMidway eq cmp es counts changes c.changes.numbers.entries l) c.in-Some.ensures.steps c.changes.invariant.midway in
    enough eq cmp laws es counts changes c.changes.numbers.entries c.in-Some.field-0.now c.next.new.self.rest.now c.in-Some-get.before.now midway (sym c.in-Some-get.ensures.value)

pub change_numbers-requires-clause-few : goal.change_numbers-requires-clause-few
change_numbers-requires-clause-few g c =
    few_enough g.F.PartialEq.eq g.O.Ord.cmp (eq_by_cmp_equiv g.met.O.Ord.total) c.args.origins.now.entries c.args.counts.now.entries c.args.changes.now c.changes.numbers.entries c.changes.origin-iterator.rest.now c.changes.invariant.midway

pub changes-preserved-in-Continue-1 : goal.changes-preserved-in-Continue-1
changes-preserved-in-Continue-1 g c =
    let eq = g.F.PartialEq.eq in
    let cmp = g.O.Ord.cmp in
    let laws = eq_by_cmp_equiv g.met.O.Ord.total in
    let es = c.args.origins.now.entries in
    let counts = c.args.counts.now.entries in
    let changes = c.args.changes.now in
    let midway = subst (λ (l : List (g.row.O.Denot × List g.row.F.Denot)). IsMidway eq cmp es counts changes c.changes.numbers.entries l) c.in-Some.ensures.steps c.changes.invariant.midway in
    record {
      goes_on = tt;
      ends = tt;
      midway = one_counted eq cmp laws es counts changes c.changes.numbers.entries c.change_numbers.new.numbers.entries c.in-Some.field-0.now c.next.new.self.rest.now c.in-Some-get.before.now midway (sym c.in-Some-get.ensures.value) c.in_ok-change_numbers.ensures;
    }
