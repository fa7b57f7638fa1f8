-- A store of what units have: what is given to some of them, and what comes and goes by that.
use Rattle.std.specs.Prelude.{◌≡◌, ◌↔◌, ◌⊎◌, Bool, true, false, cond, List, [], ◌∷◌, Some, unwrap_or}
use Rattle.std.specs.BTreeMap.{is_at}
use Rattle.std.specs.List.{IsDistinct}
use Rattle.std.specs.List.Sorted.{IsStrictlySortedBy}
use Rattle.std.specs.Map.{keys_of, lookup}
use Rattle.std.specs.Ordering.{eq_by_cmp}
use Rattle.std.specs.Set.{is_member}
use Rattle.std.proofs.Common.{refl, sym, ap, ◌∙◌, subst, inl, inr}
use Rattle.std.proofs.lemmas.Bool.{false≢true}
use Rattle.std.proofs.lemmas.Map.Keys.{IsDistinct-from_sorted}
use Rattle.ovn_base.proofs.AmongLaws.{among_cases, among_none, among_member, member_among}
use Rattle.ovn_base.specs.declared.delta.Delta.{Delta}
use Rattle.ovn_base.specs.lists.Among.{Among}
use Rattle.flow_refs.specs.Origins.{flows_of, flows_after, IsEachOnce, IsHeld, IsDifference}
use Rattle.flow_refs.specs.Store.{AreSame, IsKept}
use Rattle.flow_refs.proofs.ForCallers.{held_among, comes_among, goes_among, once_each, given_alike, each_once_from_distinct}
use Rattle.logical_flows.specs.declared.unit.UnitId.{UnitId}
use Rattle.northd_core.specs.Held.{HaveSame, unit_order}
use Rattle.northd_core.specs.Listing.{with_each}
use Rattle.northd_core.specs.Plans.{IsChange, ListsEach}

-- ---- units with what they have

keys_with_each : {F : Type 0} (has : UnitId → List F) (us : List UnitId) → keys_of (with_each has us) ≡ us
keys_with_each has [] = refl
keys_with_each has (u ∷ us) = ap (λ vs. u ∷ vs) (keys_with_each has us)

-- no unit of a list in order is given something twice
pub given_once : {F : Type 0} (has : UnitId → List F) (us : List UnitId) → IsStrictlySortedBy unit_order us → IsEachOnce unit_order (with_each has us)
given_once has us sorted = subst (λ vs. IsDistinct (eq_by_cmp unit_order) vs) (sym (keys_with_each has us)) (IsDistinct-from_sorted unit_order us sorted)

module _ {F : Type 0} (exact_unit : (u v : UnitId) → (is_at (unit_order u) v ≡ true) ↔ (u ≡ v)) (has : UnitId → List F) (held : List (UnitId × List F)) where
  -- what a unit has after the changes, by whether it is the first of them
  abbrev after_first : UnitId → List UnitId → UnitId → Bool → List F
  after_first v vs u same = unwrap_or (cond same (Some (has v)) (lookup (is_at (unit_order u)) (with_each has vs))) (flows_of unit_order held u)

  -- a unit of the list is given what it has, and any other keeps its own
  given_or_kept : (us : List UnitId) (u : UnitId) → (flows_after unit_order held (with_each has us) u ≡ has u) ⊎ ((¬ Among u us) × (flows_after unit_order held (with_each has us) u ≡ flows_of unit_order held u))
  given_or_kept [] u = inr (among_none u, refl)
  given_or_kept (v ∷ vs) u = by (is_at (unit_order u) v) (exact_unit u v) (given_or_kept vs u)
    where
      by : (same : Bool) → (same ≡ true) ↔ (u ≡ v)
          → (flows_after unit_order held (with_each has vs) u ≡ has u) ⊎ ((¬ Among u vs) × (flows_after unit_order held (with_each has vs) u ≡ flows_of unit_order held u))
          → (after_first v vs u same ≡ has u) ⊎ ((¬ Among u (v ∷ vs)) × (after_first v vs u same ≡ flows_of unit_order held u))
      by true same rest = inl (ap has (sym (same.0 refl)))
      by false other rest = elim rest [
        | inl given ↦ inl given
        | inr kept ↦ inr (λ m. elim (among_cases u v vs m) [ inl is ↦ false≢true (other.1 is) | inr later ↦ kept.0 later ], kept.1)
      ]

-- where those cover all who have something before or after, nobody else has anything
pub covering : {F : Type 0} (before after : UnitId → List F) (units : List UnitId) → ((u : UnitId) (f : F) → (Among f (before u) ⊎ Among f (after u)) → Among u units)
    → (u : UnitId) → ¬ Among u units → (f : F) → Among f (before u) ↔ Among f (after u)
covering before after units covers u out f = (λ m. absurd (out (covers u f (inl m))), λ m. absurd (out (covers u f (inr m))))

-- ---- what is held

-- the same of what is the same unit by unit
pub same_by : {F : Type 0} (one other has : UnitId → List F) → ((u : UnitId) → one u ≡ other u) → HaveSame other has → HaveSame one has
same_by one other has alike have u f = (λ m. (have u f).0 (subst (λ fs. Among f fs) (alike u) m), λ m. subst (λ fs. Among f fs) (sym (alike u)) ((have u f).1 m))

module _ {F : Type 0} (same : F → F → Bool) (exact : (f g : F) → (same f g ≡ true) ↔ (f ≡ g)) where
  own : (f : F) → same f f ≡ true
  own f = (exact f f).1 refl

  only : (f g : F) → same f g ≡ true → f ≡ g
  only f g e = (exact f g).0 e

  -- what is held is what some unit has
  abbrev IsSome : (UnitId → List F) → F → Type 0
  IsSome has f = (u : UnitId) × Among f (has u)

  held_some : (has held : UnitId → List F) → HaveSame held has → (f : F) → IsHeld same held f ↔ IsSome has f
  held_some has held have f = (
    λ h. let a = (held_among same own only held f).0 h in (a.0, (have a.0 f).0 a.1),
    λ a. (held_among same own only held f).1 (a.0, (have a.0 f).1 a.1),
  )

  -- what comes and what goes, where what some unit has is told otherwise
  pub change : (before after old new : UnitId → List F) (Before After : F → Type 0) (delta : Delta F) → HaveSame old before → HaveSame new after
      → ((f : F) → IsSome before f ↔ Before f) → ((f : F) → IsSome after f ↔ After f) → IsDifference same old new delta → IsChange Before After delta
  change before after old new Before After delta had have was is difference =
      let told_before : (f : F) → IsHeld same old f ↔ IsSome before f = held_some before old had in
      let told_after : (f : F) → IsHeld same new f ↔ IsSome after f = held_some after new have in
      let once = once_each same own only old new delta difference in
      record {
        come = λ f. let comes = comes_among same own only old new delta difference f in (
          λ m. let c = comes.0 m in (λ b. c.0 ((told_before f).1 ((was f).1 b)), (is f).0 ((told_after f).0 c.1)),
          λ r. comes.1 (λ h. r.0 ((was f).0 ((told_before f).0 h)), (told_after f).1 ((is f).1 r.1)),
        );
        go = λ f. let goes = goes_among same own only old new delta difference f in (
          λ m. let g = goes.0 m in ((was f).0 ((told_before f).0 g.0), λ a. g.1 ((told_after f).1 ((is f).1 a))),
          λ r. goes.1 ((told_before f).1 ((was f).1 r.0), λ h. r.1 ((is f).0 ((told_after f).0 h))),
        );
        come_once = once.0;
        go_once = once.1;
      }

  -- a list of what is held, each once
  pub listed : (has held : UnitId → List F) (Is : F → Type 0) (keys : List F) → HaveSame held has → ((f : F) → IsSome has f ↔ Is f)
      → IsDistinct same keys → ((f : F) → (is_member same keys f ≡ true) ↔ IsHeld same held f) → ListsEach Is keys
  listed has held Is keys have is once members = record {
    those = λ f. (
      λ m. (is f).0 ((held_some has held have f).0 ((members f).0 (among_member same own f keys m))),
      λ a. member_among same only f keys ((members f).1 ((held_some has held have f).1 ((is f).1 a))),
    );
    once = each_once_from_distinct same own keys once;
  }

  -- ---- what is prepared

  module _ (exact_unit : (u v : UnitId) → (is_at (unit_order u) v ≡ true) ↔ (u ≡ v)) (before after : UnitId → List F) (units : List UnitId) (others : (u : UnitId) → ¬ Among u units → (f : F) → Among f (before u) ↔ Among f (after u))
      (old new : List (UnitId × List F)) (given changes : List (UnitId × List F)) (is_given : given ≡ with_each after units) (alike : AreSame same given changes) (kept : IsKept same unit_order old new)
      (had : HaveSame (flows_of unit_order old) before) where
    abbrev given_after : UnitId → List F
    given_after u = flows_after unit_order new (with_each after units) u

    members : (u : UnitId) (f : F) → Among f (flows_after unit_order new changes u) ↔ Among f (given_after u)
    members u f =
        let both = given_alike same unit_order new given changes alike u f ∙ ap (λ (es : List (UnitId × List F)). is_member same (flows_after unit_order new es u) f) is_given in (
          λ m. member_among same only f (given_after u) (sym both ∙ among_member same own f (flows_after unit_order new changes u) m),
          λ m. member_among same only f (flows_after unit_order new changes u) (both ∙ among_member same own f (given_after u) m),
        )

    -- each unit will have what it has in the next network
    pub leads : HaveSame (flows_after unit_order new changes) after
    leads u f = (λ m. rows.0 ((members u f).0 m), λ m. (members u f).1 (rows.1 m))
      where
        rows : Among f (given_after u) ↔ Among f (after u)
        rows = elim (given_or_kept exact_unit after new units u) [
          | inl e ↦ (λ m. subst (λ fs. Among f fs) e m, λ m. subst (λ fs. Among f fs) (sym e) m)
          | inr k ↦ (
            λ m. (others u k.0 f).0 ((had u f).0 (subst (λ fs. Among f fs) (k.1 ∙ kept.flows u) m)),
            λ m. subst (λ fs. Among f fs) (sym (k.1 ∙ kept.flows u)) ((had u f).1 ((others u k.0 f).1 m)),
          )
        ]

  -- what is held stays
  pub stays : (old new : List (UnitId × List F)) → IsKept same unit_order old new → (has : UnitId → List F) → HaveSame (flows_of unit_order old) has → HaveSame (flows_of unit_order new) has
  stays old new kept has had u f = (λ m. (had u f).0 (subst (λ fs. Among f fs) (kept.flows u) m), λ m. subst (λ fs. Among f fs) (sym (kept.flows u)) ((had u f).1 m))
