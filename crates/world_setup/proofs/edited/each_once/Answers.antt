use Rattle.std.proofs.Common.{◌≡◌, ◌≢◌, ◌↔◌, ◌+◌, ◌∙◌, true, List, [], ◌∷◌, drop, refl, ap, sym, subst}
use Rattle.std.proofs.lemmas.Bool.{false≢true}
use Rattle.std.proofs.lemmas.List.{drop_all, drop_more}
use Rattle.std.specs.BTreeMap.{is_at}
use Rattle.std.specs.List.Sorted.{IsStrictlySortedBy}
use Rattle.std.specs.Ordering.{is_eq}
use Rattle.std.specs.declared.cmp.Ordering.{Ordering}
use Rattle.std.specs.declared.cmp.Ordering.TheVariants.{Less, Equal}
use Rattle.ovn_base.specs.lists.Once.{EachOnce}
use Rattle.ovn_base.proofs.AmongLaws.{among_all}
use Rattle.physical_flows.specs.UnitFlows.{unit_order}
use Rattle.physical_flows.specs.declared.unit.FlowUnit.{FlowUnit}
use Rattle.tunnel_keys.proofs.KeyOrder.{all_came, none_left, one_came}
use Rattle.world_setup.proofs.edited.each_once.Goals as goal

-- what is in strict order stands once
once_sorted : {X : Type 0} (R : X → X → Ordering) → ((x : X) → R x x ≢ Less) → (xs : List X) → IsStrictlySortedBy R xs → EachOnce xs
unfolding IsStrictlySortedBy
once_sorted R apart [] s = tt
once_sorted R apart (x ∷ xs) s = (λ m. apart x (among_all (λ y. R x y ≡ Less) x xs s.0 m), once_sorted R apart xs s.1)

-- units that the order does not tell apart are one, and none is below itself
abbrev IsExact : Type 0
IsExact = (u v : FlowUnit) → (is_at (unit_order u) v ≡ true) ↔ (u ≡ v)

tied : IsExact → (u v : FlowUnit) → unit_order u v ≡ Equal → u ≡ v
tied exact u v h = (exact u v).0 (ap is_eq h)

not_below : IsExact → (u : FlowUnit) → unit_order u u ≢ Less
not_below exact u h = false≢true (sym (ap is_eq h) ∙ (exact u u).1 refl)

pub units-preserved : goal.units-preserved
units-preserved c =
    let units = c.args.units.now in
    let i = c.units.unit-index in
    let rest = drop (i + 1) units in
    let split = drop_more units i c.unit-item.result c.units-test.true ∙ ap (λ k. k ∷ rest) (sym c.unit-item.is) in
    one_came unit_order (tied c.exact_unit.ensures.order) units c.units.sorted.keys c.insert.new.self.keys (drop i units) rest c.unit-item.result c.units.invariant split c.in_ok-insert.ensures.keys

pub returns-clause-once : goal.returns-clause-once
returns-clause-once c =
    let sorted = c.into_iter-unit-iterator.ensures.into_iter_gives in
    let whole = all_came c.singles.singles c.singles.unit-iterator c.into_iter-unit-iterator.result c.units.sorted.keys c.singles.invariant c.in-None.ensures.steps.0 sorted.0 in
    subst EachOnce (sym whole) (once_sorted unit_order (not_below c.exact_unit.ensures.order) c.units.sorted.keys sorted.4)

pub returns-clause-all : goal.returns-clause-all
returns-clause-all c =
    let whole = all_came c.singles.singles c.singles.unit-iterator c.into_iter-unit-iterator.result c.units.sorted.keys c.singles.invariant c.in-None.ensures.steps.0 c.into_iter-unit-iterator.ensures.into_iter_gives.0 in
    none_left c.args.units.now c.units.sorted.keys c.singles.singles (drop c.units.unit-index c.args.units.now) c.units.invariant (drop_all c.units.unit-index c.args.units.now c.units-test.false) whole
