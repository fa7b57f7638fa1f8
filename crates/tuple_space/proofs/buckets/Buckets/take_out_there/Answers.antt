use Rattle.std.proofs.Common.{◌≡◌, ◌↔◌, List, is_some, nat_eq, sym, subst, ap, ◌∙◌}
use Rattle.std.proofs.lemmas.Bool.{false≢true}
use Rattle.std.specs.Cmp.Lexicographic.{pointwise}
use Rattle.std.specs.Option.{option_copied_mut}
use Rattle.std.specs.Map.{lookup}
use Rattle.ovn_base.specs.lists.Among.{Among}
use Rattle.ovn_base.specs.lists.Once.{EachOnce}
use Rattle.flow_table.specs.declared.flow.Flow.{Flow}
use Rattle.tuple_space.specs.Bunches.{IsFalling, flows_under, promised_under}
use Rattle.tuple_space.proofs.BunchLaws.{written, under_found, promised_found, changed_law, changed_kept, promised_same}
use Rattle.tuple_space.proofs.buckets.Buckets.take_out_there.Goals as goal

pub unreachable-requires : goal.unreachable-requires
unreachable-requires c =
    false≢true (ap (λ o. is_some o) (sym (sym c.get_mut.ensures.value ∙ ap option_copied_mut c.in-None.is)) ∙ ap (λ v. is_some (lookup (pointwise nat_eq c.args.key.now) v)) c.self.view_is ∙ c.requires)

pub invariant_of-self : goal.invariant_of-self
invariant_of-self c =
    let es = c.self.inside.places.entries in
    let key = c.args.key.now in
    let wr = written key es (c.get_mut.follows.lender c.take_out.new.self).entries c.in-Some.bucket.now c.take_out.new.self c.self.invariant (sym c.get_mut.ensures.value ∙ ap option_copied_mut c.in-Some.is) (c.get_mut.follows.holds c.take_out.new.self).0 in
    let fs = under_found key es c.in-Some.bucket.now wr.found in
    let ps = promised_found key es c.in-Some.bucket.now wr.found in
    changed_law key c.take_out.new.self es (c.get_mut.follows.lender c.take_out.new.self).entries wr.change c.self.invariant
    (λ h. c.take_out.ensures.once (subst (λ (l : List Flow). EachOnce l) fs h))
    (λ h. c.take_out.ensures.falls (subst (λ (l : List Flow). IsFalling l) fs h))

pub returns-clause-kept : goal.returns-clause-kept
returns-clause-kept c = λ k f.
    let es = c.self.inside.places.entries in
    let key = c.args.key.now in
    let wr = written key es (c.get_mut.follows.lender c.take_out.new.self).entries c.in-Some.bucket.now c.take_out.new.self c.self.invariant (sym c.get_mut.ensures.value ∙ ap option_copied_mut c.in-Some.is) (c.get_mut.follows.holds c.take_out.new.self).0 in
    let fs = under_found key es c.in-Some.bucket.now wr.found in
    let ps = promised_found key es c.in-Some.bucket.now wr.found in
    subst (λ v. Among f (flows_under (c.get_mut.follows.lender c.take_out.new.self).entries k) ↔ (Among f (flows_under v k) × ¬ ((k ≡ key) × (f ≡ c.args.flow.now)))) c.self.view_is
    (changed_kept key c.take_out.new.self es (c.get_mut.follows.lender c.take_out.new.self).entries wr.change c.args.flow.now
    (λ g. subst (λ (l : List Flow). Among g c.take_out.new.self.flows ↔ (Among g l × ¬ (g ≡ c.args.flow.now))) (sym fs) (c.take_out.ensures.kept g)) k f)

pub returns-clause-promised : goal.returns-clause-promised
returns-clause-promised c = λ k.
    let es = c.self.inside.places.entries in
    let key = c.args.key.now in
    let wr = written key es (c.get_mut.follows.lender c.take_out.new.self).entries c.in-Some.bucket.now c.take_out.new.self c.self.invariant (sym c.get_mut.ensures.value ∙ ap option_copied_mut c.in-Some.is) (c.get_mut.follows.holds c.take_out.new.self).0 in
    let fs = under_found key es c.in-Some.bucket.now wr.found in
    let ps = promised_found key es c.in-Some.bucket.now wr.found in
    promised_same key c.take_out.new.self es (c.get_mut.follows.lender c.take_out.new.self).entries wr.change (c.take_out.ensures.promised ∙ sym ps) k ∙ ap (λ v. promised_under v k) c.self.view_is
