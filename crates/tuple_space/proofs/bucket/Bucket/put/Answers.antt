use Rattle.std.proofs.Common.{◌≡◌, ◌⊎◌, ◌↔◌, ◌++◌, ◌∷◌, List, take, drop, sym, subst, ap}
use Rattle.ovn_base.specs.lists.Among.{Among}
use Rattle.ovn_base.specs.lists.Once.{EachOnce}
use Rattle.flow_table.specs.declared.flow.Flow.{Flow}
use Rattle.flow_table.specs.Matching.{Beats}
use Rattle.tuple_space.specs.Bunches.{IsFalling}
use Rattle.tuple_space.proofs.RankLaws.{ranked_at, among_insert, once_insert}
use Rattle.tuple_space.proofs.bucket.Bucket.put.Goals as goal

pub returns-clause-held : goal.returns-clause-held
returns-clause-held c = λ f.
    let was = ap (λ v. v.flows) c.self.view_is in
    subst (λ (l : List Flow). Among f l ↔ ((f ≡ c.args.flow) ⊎ Among f c.args.self.now.flows)) (sym c.insert.ensures.flows)
    (subst (λ (l : List Flow). Among f (take c.place_of-place.result c.self.inside.flows.flows ++ c.args.flow ∷ drop c.place_of-place.result c.self.inside.flows.flows) ↔ ((f ≡ c.args.flow) ⊎ Among f l)) was
    (among_insert c.self.inside.flows.flows c.place_of-place.result c.args.flow f))

pub returns-clause-once : goal.returns-clause-once
returns-clause-once c = λ h fresh.
    let was = ap (λ v. v.flows) (sym c.self.view_is) in
    subst (λ (l : List Flow). EachOnce l) (sym c.insert.ensures.flows)
    (once_insert c.self.inside.flows.flows c.place_of-place.result c.args.flow (subst (λ (l : List Flow). EachOnce l) was h) (subst (λ (l : List Flow). ¬ Among c.args.flow l) was fresh))

pub returns-clause-falls : goal.returns-clause-falls
returns-clause-falls c = λ h.
    let was = ap (λ v. v.flows) (sym c.self.view_is) in
    let falls : IsFalling c.self.inside.flows.flows = subst (λ (l : List Flow). IsFalling l) was h in
    subst (λ (l : List Flow). IsFalling l) (sym c.insert.ensures.flows)
    (ranked_at (λ x y. ¬ Beats y x) c.self.inside.flows.flows c.place_of-place.result c.args.flow falls
    c.place_of-place.ensures.before
    (c.place_of-place.ensures.behind falls))
