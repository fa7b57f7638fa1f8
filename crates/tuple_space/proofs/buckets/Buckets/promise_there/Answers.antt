use Rattle.std.proofs.Common.{◌≡◌, ◌+◌, ℕ, cond, List, is_some, nat_eq, sym, subst, ap, ◌∙◌}
use Rattle.indexmap.proofs.MapLemmas.{OnOk-map}
use Rattle.std.proofs.lemmas.Bool.{false≢true}
use Rattle.std.specs.Cmp.Lexicographic.{pointwise}
use Rattle.std.specs.Option.{option_copied_mut}
use Rattle.std.specs.Map.{lookup}
use Rattle.ovn_base.specs.lists.Once.{EachOnce}
use Rattle.flow_table.specs.declared.flow.Flow.{Flow}
use Rattle.tuple_space.specs.Bunches.{IsFalling, flows_in, flows_under, promised_under}
use Rattle.tuple_space.proofs.BunchLaws.{written, under_found, promised_found, in_write, changed_law, changed_same, promised_more}
use Rattle.tuple_space.proofs.buckets.Buckets.promise_there.Goals as goal

pub unreachable-requires : goal.unreachable-requires
unreachable-requires c =
    false≢true (ap (λ o. is_some o) (sym (sym c.get_mut.ensures.value ∙ ap option_copied_mut c.in-None.is)) ∙ ap (λ v. is_some (lookup (pointwise nat_eq c.args.key.now) v)) c.self.view_is ∙ c.requires)

pub invariant_of-self : goal.invariant_of-self
invariant_of-self c =
    let es = c.self.inside.places.entries in
    let key = c.args.key.now in
    let wr = written key es (c.get_mut.follows.lender c.promise.new.self).entries c.in-Some.bucket.now c.promise.new.self c.self.invariant (sym c.get_mut.ensures.value ∙ ap option_copied_mut c.in-Some.is) (c.get_mut.follows.holds c.promise.new.self).0 in
    let fs = under_found key es c.in-Some.bucket.now wr.found in
    let ps = promised_found key es c.in-Some.bucket.now wr.found in
    changed_law key c.promise.new.self es (c.get_mut.follows.lender c.promise.new.self).entries wr.change c.self.invariant
    (λ h. subst (λ (l : List Flow). EachOnce l) (fs ∙ sym c.promise.ensures.flows) h)
    (λ h. subst (λ (l : List Flow). IsFalling l) (fs ∙ sym c.promise.ensures.flows) h)

pub returns-clause-flows : goal.returns-clause-flows
returns-clause-flows c =
    let es = c.self.inside.places.entries in
    let key = c.args.key.now in
    let wr = written key es (c.get_mut.follows.lender c.promise.new.self).entries c.in-Some.bucket.now c.promise.new.self c.self.invariant (sym c.get_mut.ensures.value ∙ ap option_copied_mut c.in-Some.is) (c.get_mut.follows.holds c.promise.new.self).0 in
    let fs = under_found key es c.in-Some.bucket.now wr.found in
    let ps = promised_found key es c.in-Some.bucket.now wr.found in
    ap (λ l. flows_in l) wr.set ∙ in_write key es c.in-Some.bucket.now c.promise.new.self wr.found c.promise.ensures.flows ∙ ap (λ v. flows_in v) c.self.view_is

pub returns-clause-under : goal.returns-clause-under
returns-clause-under c = λ k.
    let es = c.self.inside.places.entries in
    let key = c.args.key.now in
    let wr = written key es (c.get_mut.follows.lender c.promise.new.self).entries c.in-Some.bucket.now c.promise.new.self c.self.invariant (sym c.get_mut.ensures.value ∙ ap option_copied_mut c.in-Some.is) (c.get_mut.follows.holds c.promise.new.self).0 in
    let fs = under_found key es c.in-Some.bucket.now wr.found in
    let ps = promised_found key es c.in-Some.bucket.now wr.found in
    changed_same key c.promise.new.self es (c.get_mut.follows.lender c.promise.new.self).entries wr.change (c.promise.ensures.flows ∙ sym fs) k ∙ ap (λ v. flows_under v k) c.self.view_is

pub returns-clause-promised : goal.returns-clause-promised
returns-clause-promised c =
    let es = c.self.inside.places.entries in
    let key = c.args.key.now in
    let wr = written key es (c.get_mut.follows.lender c.promise.new.self).entries c.in-Some.bucket.now c.promise.new.self c.self.invariant (sym c.get_mut.ensures.value ∙ ap option_copied_mut c.in-Some.is) (c.get_mut.follows.holds c.promise.new.self).0 in
    let fs = under_found key es c.in-Some.bucket.now wr.found in
    let ps = promised_found key es c.in-Some.bucket.now wr.found in
    OnOk-map c.promise.result (c.promise.new.self.promised ≡ c.in-Some.bucket.now.promised + 1) ((k : List ℕ) → promised_under (c.get_mut.follows.lender c.promise.new.self).entries k ≡ promised_under c.args.self.now k + cond (pointwise nat_eq key k) 1 0)
    (λ h k. promised_more key c.promise.new.self es (c.get_mut.follows.lender c.promise.new.self).entries wr.change (h ∙ ap (λ n. n + 1) (sym ps)) k ∙ ap (λ v. promised_under v k + cond (pointwise nat_eq key k) 1 0) c.self.view_is)
    c.promise.ensures.ok
