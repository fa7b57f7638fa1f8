use Rattle.std.proofs.Common.{◌≡◌, ◌+◌, ◌++◌, ◌∷◌, [], cond, List, None, nat_eq, sym, subst, ap, ◌∙◌}
use Rattle.std.specs.Cmp.Lexicographic.{pointwise}
use Rattle.std.specs.Option.{option_map_or}
use Rattle.std.specs.Map.{lookup}
use Rattle.ovn_base.specs.lists.Once.{EachOnce}
use Rattle.flow_table.specs.declared.flow.Flow.{Flow}
use Rattle.tuple_space.specs.Bunches.{Bunch, IsFalling, flows_in, flows_under, promised_under}
use Rattle.tuple_space.proofs.BunchLaws.{added, in_more, changed_more, changed_law, changed_same, promised_more, IsChanged}
use Rattle.tuple_space.proofs.buckets.Buckets.promise_new.Goals as goal

pub invariant_of-self : goal.invariant_of-self
invariant_of-self c =
    let es = c.self.inside.places.entries in
    let key = c.args.key.now in
    let w = c.promise.new.self in
    let place : c.in_ok-place.place ≡ key = c.in_ok-place.ensures in
    let none : lookup (pointwise nat_eq key) es ≡ None = ap (λ v. lookup (pointwise nat_eq key) v) c.self.view_is ∙ c.requires in
    let new : c.insert.new.self.entries ≡ es ++ (key, w) ∷ [] = added c.in_ok-place.place es c.insert.new.self.entries w (subst (λ q. lookup (pointwise nat_eq q) es ≡ None) (sym place) none) c.in-Ok.ensures.entries ∙ ap (λ q. es ++ (q, w) ∷ []) place in
    let change : IsChanged key w es c.insert.new.self.entries = subst (λ l. IsChanged key w es l) (sym new) (changed_more key es w c.self.invariant none) in
    let empty : w.flows ≡ [] = c.in_ok-promise.ensures.flows ∙ c.new-bucket.ensures.flows in
    let fs : flows_under es key ≡ [] = ap (λ o. option_map_or (λ (b : Bunch). b.flows) o []) none in
    let ps : promised_under es key ≡ 0 = ap (λ o. option_map_or (λ (b : Bunch). b.promised) o 0) none in
    changed_law key w es c.insert.new.self.entries change c.self.invariant
    (λ h. subst (λ (l : List Flow). EachOnce l) (sym empty) tt)
    (λ h. subst (λ (l : List Flow). IsFalling l) (sym empty) tt)

pub returns-in-Ok-clause-flows : goal.returns-in-Ok-clause-flows
returns-in-Ok-clause-flows c =
    let es = c.self.inside.places.entries in
    let key = c.args.key.now in
    let w = c.promise.new.self in
    let place : c.in_ok-place.place ≡ key = c.in_ok-place.ensures in
    let none : lookup (pointwise nat_eq key) es ≡ None = ap (λ v. lookup (pointwise nat_eq key) v) c.self.view_is ∙ c.requires in
    let new : c.insert.new.self.entries ≡ es ++ (key, w) ∷ [] = added c.in_ok-place.place es c.insert.new.self.entries w (subst (λ q. lookup (pointwise nat_eq q) es ≡ None) (sym place) none) c.in-Ok.ensures.entries ∙ ap (λ q. es ++ (q, w) ∷ []) place in
    let change : IsChanged key w es c.insert.new.self.entries = subst (λ l. IsChanged key w es l) (sym new) (changed_more key es w c.self.invariant none) in
    let empty : w.flows ≡ [] = c.in_ok-promise.ensures.flows ∙ c.new-bucket.ensures.flows in
    let fs : flows_under es key ≡ [] = ap (λ o. option_map_or (λ (b : Bunch). b.flows) o []) none in
    let ps : promised_under es key ≡ 0 = ap (λ o. option_map_or (λ (b : Bunch). b.promised) o 0) none in
    ap (λ l. flows_in l) new ∙ in_more es key w empty ∙ ap (λ v. flows_in v) c.self.view_is

pub returns-in-Ok-clause-under : goal.returns-in-Ok-clause-under
returns-in-Ok-clause-under c = λ k.
    let es = c.self.inside.places.entries in
    let key = c.args.key.now in
    let w = c.promise.new.self in
    let place : c.in_ok-place.place ≡ key = c.in_ok-place.ensures in
    let none : lookup (pointwise nat_eq key) es ≡ None = ap (λ v. lookup (pointwise nat_eq key) v) c.self.view_is ∙ c.requires in
    let new : c.insert.new.self.entries ≡ es ++ (key, w) ∷ [] = added c.in_ok-place.place es c.insert.new.self.entries w (subst (λ q. lookup (pointwise nat_eq q) es ≡ None) (sym place) none) c.in-Ok.ensures.entries ∙ ap (λ q. es ++ (q, w) ∷ []) place in
    let change : IsChanged key w es c.insert.new.self.entries = subst (λ l. IsChanged key w es l) (sym new) (changed_more key es w c.self.invariant none) in
    let empty : w.flows ≡ [] = c.in_ok-promise.ensures.flows ∙ c.new-bucket.ensures.flows in
    let fs : flows_under es key ≡ [] = ap (λ o. option_map_or (λ (b : Bunch). b.flows) o []) none in
    let ps : promised_under es key ≡ 0 = ap (λ o. option_map_or (λ (b : Bunch). b.promised) o 0) none in
    changed_same key w es c.insert.new.self.entries change (empty ∙ sym fs) k ∙ ap (λ v. flows_under v k) c.self.view_is

pub returns-in-Ok-clause-promised : goal.returns-in-Ok-clause-promised
returns-in-Ok-clause-promised c = λ k.
    let es = c.self.inside.places.entries in
    let key = c.args.key.now in
    let w = c.promise.new.self in
    let place : c.in_ok-place.place ≡ key = c.in_ok-place.ensures in
    let none : lookup (pointwise nat_eq key) es ≡ None = ap (λ v. lookup (pointwise nat_eq key) v) c.self.view_is ∙ c.requires in
    let new : c.insert.new.self.entries ≡ es ++ (key, w) ∷ [] = added c.in_ok-place.place es c.insert.new.self.entries w (subst (λ q. lookup (pointwise nat_eq q) es ≡ None) (sym place) none) c.in-Ok.ensures.entries ∙ ap (λ q. es ++ (q, w) ∷ []) place in
    let change : IsChanged key w es c.insert.new.self.entries = subst (λ l. IsChanged key w es l) (sym new) (changed_more key es w c.self.invariant none) in
    let empty : w.flows ≡ [] = c.in_ok-promise.ensures.flows ∙ c.new-bucket.ensures.flows in
    let fs : flows_under es key ≡ [] = ap (λ o. option_map_or (λ (b : Bunch). b.flows) o []) none in
    let ps : promised_under es key ≡ 0 = ap (λ o. option_map_or (λ (b : Bunch). b.promised) o 0) none in
    let one : w.promised ≡ promised_under es key + 1 = c.in_ok-promise.ensures.ok ∙ ap (λ n. n + 1) (c.new-bucket.ensures.promised ∙ sym ps) in
    promised_more key w es c.insert.new.self.entries change one k ∙ ap (λ v. promised_under v k + cond (pointwise nat_eq key k) 1 0) c.self.view_is
