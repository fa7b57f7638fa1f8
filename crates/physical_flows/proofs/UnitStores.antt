-- Stores of flows by unit: what is held, what is prepared, and what they have of the rows of the units.
use Rattle.std.specs.Prelude.{◌≡◌, ◌↔◌, ◌⊎◌, Bool, true, false, cond, List, [], ◌∷◌, ◌++◌, map, Some, unwrap_or, refl}
use mathlib.Core.Path.{sym, ap, subst, ◌∙◌}
use mathlib.Core.Logic.{inl, inr}
use Rattle.std.proofs.lemmas.Bool.{false≢true}
use Rattle.std.proofs.lemmas.List.{append-nil}
use Rattle.std.specs.BTreeMap.{is_at}
use Rattle.std.specs.Map.{keys_of, lookup}
use Rattle.std.specs.Set.{is_member}
use Rattle.ovn_base.specs.declared.delta.Delta.{Delta}
use Rattle.ovn_base.specs.lists.Among.{Among}
use Rattle.ovn_base.proofs.AmongLaws.{among_cases, among_none, among_member, member_among}
use Rattle.ovn_base.specs.lists.Once.{EachOnce}
use Rattle.flow_refs.specs.Origins.{flows_of, flows_after, IsEachOnce, IsHeld, IsDifference}
use Rattle.flow_refs.specs.Store.{Prepared, AreSame, IsKept, IsPreparedFor}
use Rattle.flow_refs.proofs.ForCallers.{held_among, comes_among, goes_among, once_each, given_alike, is_each_once}
use Rattle.flow_table.specs.declared.flow.Flow.{Flow}
use Rattle.physical_flows.specs.declared.unit.FlowUnit.{FlowUnit}
use Rattle.physical_flows.specs.Stages.{Basis}
use Rattle.physical_flows.specs.UnitFlows.{UnitStore, AreGiven, HaveRows, IsRowChange, IsTablePatch, StayPrepared, rows_held, same_flow, unit_order}
use Rattle.physical_flows.specs.Units.{rows_here, HasRow, ChangeOnly}

-- units with all their rows, by those that are given
abbrev pub rows_given : Basis → List (FlowUnit × List Flow) → List (FlowUnit × List Flow)
rows_given b given = map (λ e. (e.0, e.1 ++ rows_here b e.0)) given

-- ---- the units that are given rows

-- those of which the rows are made, when none are left
pub all_given : (b : Basis) (changes given left : List (FlowUnit × List Flow)) → changes ++ rows_given b left ≡ rows_given b given → left ≡ [] → changes ≡ rows_given b given
all_given b changes given left so_far none = sym (append-nil changes) ∙ ap (λ es. changes ++ rows_given b es) (sym none) ∙ so_far

module _ (exact : (u v : FlowUnit) → (is_at (unit_order u) v ≡ true) ↔ (u ≡ v)) (b : Basis) where
  keys_given : (es : List (FlowUnit × List Flow)) → keys_of (rows_given b es) ≡ keys_of es
  keys_given [] = refl
  keys_given (e ∷ es) = ap (λ us. e.0 ∷ us) (keys_given es)

  -- no unit is given rows twice
  pub given_once : (es : List (FlowUnit × List Flow)) → EachOnce (keys_of es) → IsEachOnce unit_order (rows_given b es)
  given_once es once = is_each_once unit_order (λ u v. (exact u v).0) (rows_given b es) (subst (λ (us : List FlowUnit). EachOnce us) (sym (keys_given es)) once)

module _ (exact : (u v : FlowUnit) → (is_at (unit_order u) v ≡ true) ↔ (u ≡ v)) (b : Basis) (held : List (FlowUnit × List Flow)) (rows : FlowUnit → List Flow) where
  -- the flows of a unit after the changes, by whether it is the first of them
  abbrev after_first : (e : FlowUnit × List Flow) → List (FlowUnit × List Flow) → FlowUnit → Bool → List Flow
  after_first e es u same = unwrap_or (cond same (Some (e.1 ++ rows_here b e.0)) (lookup (is_at (unit_order u)) (rows_given b es))) (flows_of unit_order held u)

  -- a unit is given its rows, or else keeps what it has
  given_or_kept : (es : List (FlowUnit × List Flow)) → AreGiven b rows es → (u : FlowUnit)
      → (flows_after unit_order held (rows_given b es) u ≡ rows u) ⊎ ((¬ Among u (keys_of es)) × (flows_after unit_order held (rows_given b es) u ≡ flows_of unit_order held u))
  given_or_kept [] all u = inr (λ m. among_none u m, refl)
  given_or_kept (e ∷ es) all u = by (is_at (unit_order u) e.0) (exact u e.0) (given_or_kept es all.1 u)
    where
      by : (same : Bool) → (same ≡ true) ↔ (u ≡ e.0)
          → (flows_after unit_order held (rows_given b es) u ≡ rows u) ⊎ ((¬ Among u (keys_of es)) × (flows_after unit_order held (rows_given b es) u ≡ flows_of unit_order held u))
          → (after_first e es u same ≡ rows u) ⊎ ((¬ Among u (e.0 ∷ keys_of es)) × (after_first e es u same ≡ flows_of unit_order held u))
      by true same rest = inl (sym all.0 ∙ ap rows (sym (same.0 refl)))
      by false other rest = elim rest [
        | inl given ↦ inl given
        | inr kept ↦ inr (λ m. elim (among_cases u e.0 (keys_of es) m) [ inl is ↦ false≢true (other.1 is) | inr later ↦ kept.0 later ], kept.1)
      ]

-- ---- what is held

module _ (exact : (f g : Flow) → (same_flow f g ≡ true) ↔ (f ≡ g)) where
  same_own : (f : Flow) → same_flow f f ≡ true
  same_own f = (exact f f).1 refl

  same_only : (f g : Flow) → same_flow f g ≡ true → f ≡ g
  same_only f g e = (exact f g).0 e

  -- a flow is held exactly where it is a row
  held_row : (rows held : FlowUnit → List Flow) → HaveRows rows held → (f : Flow) → IsHeld same_flow held f ↔ HasRow rows f
  held_row rows held have f = (
    λ h. let a = (held_among same_flow same_own same_only held f).0 h in record { unit = a.0; among = (have a.0 f).0 a.1 },
    λ r. (held_among same_flow same_own same_only held f).1 (r.unit, (have r.unit f).1 r.among),
  )

  -- what comes and what goes, by the rows
  row_change : (before after old new : FlowUnit → List Flow) (delta : Delta Flow) → HaveRows before old → HaveRows after new → IsDifference same_flow old new delta → IsRowChange before after delta
  row_change before after old new delta had have difference =
      let was = held_row before old had in
      let is = held_row after new have in
      let once = once_each same_flow same_own same_only old new delta difference in
      record {
        come = λ f. let comes = comes_among same_flow same_own same_only old new delta difference f in (
          λ m. let c = comes.0 m in (λ r. c.0 ((was f).1 r), (is f).0 c.1),
          λ r. comes.1 (λ h. r.0 ((was f).0 h), (is f).1 r.1),
        );
        go = λ f. let goes = goes_among same_flow same_own same_only old new delta difference f in (
          λ m. let g = goes.0 m in ((was f).0 g.0, λ r. g.1 ((is f).1 r)),
          λ r. goes.1 ((was f).1 r.0, λ h. r.1 ((is f).0 h)),
        );
        come_once = once.0;
        go_once = once.1;
      }

  -- ---- what is prepared

  module _ (exact_unit : (u v : FlowUnit) → (is_at (unit_order u) v ≡ true) ↔ (u ≡ v)) (b : Basis) (given changes : List (FlowUnit × List Flow)) (old new : UnitStore) (patch : Prepared Flow FlowUnit)
      (are_changes : changes ≡ rows_given b given) (prepared : IsPreparedFor same_flow unit_order new patch) (same : AreSame same_flow changes patch.changes)
      (kept : IsKept same_flow unit_order old.origins new.origins) (before rows : FlowUnit → List Flow) (had : HaveRows before (rows_held old)) (rows_are : AreGiven b rows given)
      (only : ChangeOnly (keys_of given) before rows) where
    abbrev made : FlowUnit → List Flow
    made u = flows_after unit_order new.origins (rows_given b given) u

    -- each unit will have its rows
    leads_to : HaveRows rows (flows_after unit_order new.origins patch.changes)
    leads_to u f = (λ m. are.0 (members.0 m), λ m. members.1 (are.1 m))
      where
        members : Among f (flows_after unit_order new.origins patch.changes u) ↔ Among f (made u)
        members =
            let both = given_alike same_flow unit_order new.origins changes patch.changes same u f ∙ ap (λ (es : List (FlowUnit × List Flow)). is_member same_flow (flows_after unit_order new.origins es u) f) are_changes in (
              λ m. member_among same_flow same_only f (made u) (sym both ∙ among_member same_flow same_own f (flows_after unit_order new.origins patch.changes u) m),
              λ m. member_among same_flow same_only f (flows_after unit_order new.origins patch.changes u) (both ∙ among_member same_flow same_own f (made u) m),
            )

        are : Among f (made u) ↔ Among f (rows u)
        are = elim (given_or_kept exact_unit b new.origins rows given rows_are u) [
          | inl e ↦ (λ m. subst (λ fs. Among f fs) e m, λ m. subst (λ fs. Among f fs) (sym e) m)
          | inr k ↦
              let stays : made u ≡ flows_of unit_order old.origins u = k.1 ∙ kept.flows u in
              let unchanged : rows u ≡ before u = only u k.0 in (
                λ m. subst (λ fs. Among f fs) (sym unchanged) ((had u f).0 (subst (λ fs. Among f fs) stays m)),
                λ m. subst (λ fs. Among f fs) (sym stays) ((had u f).1 (subst (λ fs. Among f fs) unchanged m)),
              )
        ]

    still_had : HaveRows before (rows_held new)
    still_had u f = (λ m. (had u f).0 (subst (λ fs. Among f fs) (kept.flows u) m), λ m. subst (λ fs. Among f fs) (sym (kept.flows u)) ((had u f).1 m))

    -- the patch leads from the rows that are held to those that are given
    pub is_patch : IsTablePatch before rows new patch
    is_patch = record {
      ready = prepared;
      leads = leads_to;
      change = row_change before rows (rows_held new) (flows_after unit_order new.origins patch.changes) patch.delta still_had leads_to prepared.delta;
    }

-- ---- what was prepared before

-- each unit has the flows after the changes that it had after them before
kept_after : (old new : UnitStore) → IsKept same_flow unit_order old.origins new.origins → (changes : List (FlowUnit × List Flow)) (u : FlowUnit)
    → flows_after unit_order new.origins changes u ≡ flows_after unit_order old.origins changes u
kept_after old new kept changes u = ap (λ fs. unwrap_or (lookup (is_at (unit_order u)) changes) fs) (kept.flows u)

-- it still leads where it led
pub still_prepared : (old new : UnitStore) → IsKept same_flow unit_order old.origins new.origins → ((p : Prepared Flow FlowUnit) → IsPreparedFor same_flow unit_order old p → IsPreparedFor same_flow unit_order new p)
    → StayPrepared old new
still_prepared old new kept stays before after patch is = record {
  ready = stays patch is.ready;
  leads = λ u f. subst (λ fs. Among f fs ↔ Among f (after u)) (sym (kept_after old new kept patch.changes u)) (is.leads u f);
  change = is.change;
}
