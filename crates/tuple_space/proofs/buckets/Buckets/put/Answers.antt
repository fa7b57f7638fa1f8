use Rattle.std.proofs.Common.{◌≡◌, ◌⊎◌, ◌↔◌, ◌<◌, List, arith, sym, subst, ap, ◌∙◌}
use Rattle.std.specs.Option.{option_copied_mut, option_map_or}
use Rattle.ovn_base.specs.lists.Among.{Among}
use Rattle.ovn_base.specs.lists.Once.{EachOnce}
use Rattle.flow_table.specs.declared.flow.Flow.{Flow}
use Rattle.tuple_space.specs.Bunches.{Bunch, IsFalling, flows_under, promised_under}
use Rattle.tuple_space.proofs.BunchLaws.{written, under_found, promised_found, changed_law, changed_held, promised_less}
use Rattle.tuple_space.proofs.buckets.Buckets.put.Goals as goal

pub put-requires : goal.put-requires
put-requires c =
    let es = c.self.inside.places.entries in
    let key = c.args.key.now in
    let at = sym c.get_mut.ensures.value ∙ ap option_copied_mut c.in-Some.is in
    subst (λ n. 0 < n) (ap (λ v. promised_under v key) (sym c.self.view_is) ∙ promised_found key es c.in-Some.bucket.now at) c.requires.room

pub unreachable-requires : goal.unreachable-requires
unreachable-requires c =
    let at = sym c.get_mut.ensures.value ∙ ap option_copied_mut c.in-None.is in
    let none : promised_under c.args.self.now c.args.key.now ≡ 0 = ap (λ v. promised_under v c.args.key.now) (sym c.self.view_is) ∙ ap (λ o. option_map_or (λ (b : Bunch). b.promised) o 0) at in
    absurd (omega (arith, none, c.requires.room))

pub invariant_of-self : goal.invariant_of-self
invariant_of-self c =
    let es = c.self.inside.places.entries in
    let key = c.args.key.now in
    let wr = written key es (c.get_mut.follows.lender c.put.new.self).entries c.in-Some.bucket.now c.put.new.self c.self.invariant (sym c.get_mut.ensures.value ∙ ap option_copied_mut c.in-Some.is) (c.get_mut.follows.holds c.put.new.self).0 in
    let fs = under_found key es c.in-Some.bucket.now wr.found in
    let ps = promised_found key es c.in-Some.bucket.now wr.found in
    changed_law key c.put.new.self es (c.get_mut.follows.lender c.put.new.self).entries wr.change c.self.invariant
    (λ h. c.put.ensures.once (subst (λ (l : List Flow). EachOnce l) fs h) (subst (λ (l : List Flow). ¬ Among c.args.flow l) (ap (λ v. flows_under v key) (sym c.self.view_is) ∙ fs) c.requires.fresh))
    (λ h. c.put.ensures.falls (subst (λ (l : List Flow). IsFalling l) fs h))

pub returns-clause-held : goal.returns-clause-held
returns-clause-held c = λ k f.
    let es = c.self.inside.places.entries in
    let key = c.args.key.now in
    let wr = written key es (c.get_mut.follows.lender c.put.new.self).entries c.in-Some.bucket.now c.put.new.self c.self.invariant (sym c.get_mut.ensures.value ∙ ap option_copied_mut c.in-Some.is) (c.get_mut.follows.holds c.put.new.self).0 in
    let fs = under_found key es c.in-Some.bucket.now wr.found in
    let ps = promised_found key es c.in-Some.bucket.now wr.found in
    subst (λ v. Among f (flows_under (c.get_mut.follows.lender c.put.new.self).entries k) ↔ (((k ≡ key) × (f ≡ c.args.flow)) ⊎ Among f (flows_under v k))) c.self.view_is
    (changed_held key c.put.new.self es (c.get_mut.follows.lender c.put.new.self).entries wr.change c.args.flow
    (λ g. subst (λ (l : List Flow). Among g c.put.new.self.flows ↔ ((g ≡ c.args.flow) ⊎ Among g l)) (sym fs) (c.put.ensures.held g)) k f)

pub returns-clause-promised : goal.returns-clause-promised
returns-clause-promised c = λ k.
    let es = c.self.inside.places.entries in
    let key = c.args.key.now in
    let wr = written key es (c.get_mut.follows.lender c.put.new.self).entries c.in-Some.bucket.now c.put.new.self c.self.invariant (sym c.get_mut.ensures.value ∙ ap option_copied_mut c.in-Some.is) (c.get_mut.follows.holds c.put.new.self).0 in
    let fs = under_found key es c.in-Some.bucket.now wr.found in
    let ps = promised_found key es c.in-Some.bucket.now wr.found in
    ap (λ v. promised_under v k) (sym c.self.view_is) ∙ promised_less key c.put.new.self es (c.get_mut.follows.lender c.put.new.self).entries wr.change (c.put.ensures.promised ∙ sym ps) k
