-- A plan leads from what is held for one network to what is held for the next.
use Rattle.std.specs.Prelude.{unwrap_or, ◌≡◌, ◌↔◌, ◌⊎◌, Bool, true, List, [], refl}
use Rattle.std.specs.BTreeMap.{is_at}
use Rattle.std.proofs.Common.{ap, subst, inl, inr}
use Rattle.ovn_base.proofs.AmongLaws.{among_none}
use Rattle.ovn_base.specs.declared.name.Name.{Name}
use Rattle.ovn_base.specs.lists.Among.{Among}
use Rattle.std.specs.List.{IsDistinct}
use Rattle.std.specs.Map.{lookup}
use Rattle.std.specs.Set.{is_member}
use Rattle.flow_refs.specs.Origins.{flows_of, flows_after, IsHeld}
use Rattle.flow_refs.specs.Store.{Prepared, AreSame, IsKept, IsPreparedFor}
use Rattle.nb_records.specs.Network.{Network, empty_network}
use Rattle.nb_rules.specs.Valid.{IsValid}
use Rattle.logical_flows.specs.declared.flow.LFlow.{LFlow}
use Rattle.logical_flows.specs.declared.unit.UnitId.{UnitId}
use Rattle.logical_flows.specs.declared.unit.UnitId.TheVariants as unit
use Rattle.stage_rows.specs.Units.{rows_of, pairs_of_unit, units_of, IsLogicalFlow}
use Rattle.northd_core.specs.Held.{North, HaveSame, StandsFor, same_flow, same_pair, unit_order}
use Rattle.northd_core.specs.Listing.{HaveJoined, with_each}
use Rattle.northd_core.specs.Plans.{Planned, IsPlannedOn, IsNorthPlan, IsLeft, IsPairOf, ListsEach}
use Rattle.northd_core.proofs.RowUnits.{with_rows, paired_row, pair_of, of_pair, flow_of, of_flow}
use Rattle.northd_core.proofs.Stores as stores

-- ---- the empty network

pub no_rows : (u : UnitId) → rows_of empty_network u ≡ []
no_rows (unit.Port q) = refl
no_rows (unit.Rule r d) = refl
no_rows (unit.Route r) = refl
no_rows (unit.Neighbour port ip) = refl
no_rows (unit.Nat r) = refl
no_rows (unit.Balancer b d) = refl
no_rows (unit.Switch d) = refl
no_rows (unit.Router d) = refl

no_pairs : (u : UnitId) → pairs_of_unit empty_network u ≡ []
no_pairs (unit.Port q) = refl
no_pairs (unit.Rule r d) = refl
no_pairs (unit.Route r) = refl
no_pairs (unit.Neighbour port ip) = refl
no_pairs (unit.Nat r) = refl
no_pairs (unit.Balancer b d) = refl
no_pairs (unit.Switch d) = refl
no_pairs (unit.Router d) = refl

-- no unit has any in either
pub none_held : {F : Type 0} (origins : List (UnitId × List F)) (has : UnitId → List F) → origins ≡ [] → ((u : UnitId) → has u ≡ []) → HaveSame (flows_of unit_order origins) has
none_held origins has none empty u f = (
  λ m. absurd (among_none f (subst (λ (es : List (UnitId × List _)). Among f (flows_of unit_order es u)) none m)),
  λ m. absurd (among_none f (subst (λ fs. Among f fs) (empty u) m)),
)

pub empty_stands : (n : North) → n.flows.origins ≡ [] → n.pairs.origins ≡ [] → StandsFor empty_network n
empty_stands n flows pairs = record { rows = none_held n.flows.origins (rows_of empty_network) flows no_rows; pairs = none_held n.pairs.origins (pairs_of_unit empty_network) pairs no_pairs }

-- ---- plans

-- what is held stays
pub kept_stands : ((f g : LFlow) → (same_flow f g ≡ true) ↔ (f ≡ g)) → ((p q : LFlow × Name) → (same_pair p q ≡ true) ↔ (p ≡ q)) → (old new : North)
    → IsKept same_flow unit_order old.flows.origins new.flows.origins → IsKept same_pair unit_order old.pairs.origins new.pairs.origins → (net : Network) → StandsFor net old → StandsFor net new
kept_stands exact_flow exact_pair old new flows pairs net stands = record {
  rows = stores.stays same_flow exact_flow old.flows.origins new.flows.origins flows (rows_of net) stands.rows;
  pairs = stores.stays same_pair exact_pair old.pairs.origins new.pairs.origins pairs (pairs_of_unit net) stands.pairs;
}

-- a patch gives each unit the same, whatever leaves it what it has
pub after_kept : {F : Type 0} (eq : F → F → Bool) (old new changes : List (UnitId × List F)) → IsKept eq unit_order old new → (u : UnitId) → flows_after unit_order new changes u ≡ flows_after unit_order old changes u
after_kept eq old new changes kept u = ap (λ fs. unwrap_or (lookup (is_at (unit_order u)) changes) fs) (kept.flows u)

pub left_itself : (north : North) → IsLeft north north
left_itself north = record {
  stands = λ net h. h;
  ready = λ plan h. h;
  planned = λ before after plan h. h;
  flows_shown = refl;
  pairs_shown = refl;
}

-- what both stores say of what they leave
pub is_left : ((f g : LFlow) → (same_flow f g ≡ true) ↔ (f ≡ g)) → ((p q : LFlow × Name) → (same_pair p q ≡ true) ↔ (p ≡ q)) → (old new : North)
    → IsKept same_flow unit_order old.flows.origins new.flows.origins → IsKept same_pair unit_order old.pairs.origins new.pairs.origins
    → ((p : Prepared LFlow UnitId) → IsPreparedFor same_flow unit_order old.flows p → IsPreparedFor same_flow unit_order new.flows p)
    → ((p : Prepared (LFlow × Name) UnitId) → IsPreparedFor same_pair unit_order old.pairs p → IsPreparedFor same_pair unit_order new.pairs p)
    → new.flows.counts ≡ old.flows.counts → new.pairs.counts ≡ old.pairs.counts → IsLeft old new
is_left exact_flow exact_pair old new kept kept_too stays stays_too shown shown_too = record {
  stands = kept_stands exact_flow exact_pair old new kept kept_too;
  ready = λ plan h. record { flows = stays plan.flows h.flows; pairs = stays_too plan.pairs h.pairs };
  planned = λ before after plan h. record {
    ready = record { flows = stays plan.flows h.ready.flows; pairs = stays_too plan.pairs h.ready.pairs };
    rows = stores.same_by (flows_after unit_order new.flows.origins plan.flows.changes) (flows_after unit_order old.flows.origins plan.flows.changes) (rows_of after)
        (after_kept same_flow old.flows.origins new.flows.origins plan.flows.changes kept) h.rows;
    rows_paired = stores.same_by (flows_after unit_order new.pairs.origins plan.pairs.changes) (flows_after unit_order old.pairs.origins plan.pairs.changes) (pairs_of_unit after)
        (after_kept same_pair old.pairs.origins new.pairs.origins plan.pairs.changes kept_too) h.rows_paired;
    flows = h.flows;
    pairs = h.pairs;
  };
  flows_shown = shown;
  pairs_shown = shown_too;
}

module _ (before after : Network) (valid : IsValid before) (next_valid : IsValid after)
    (exact_flow : (f g : LFlow) → (same_flow f g ≡ true) ↔ (f ≡ g)) (exact_pair : (p q : LFlow × Name) → (same_pair p q ≡ true) ↔ (p ≡ q))
    (exact_unit : (u v : UnitId) → (is_at (unit_order u) v ≡ true) ↔ (u ≡ v)) where
  flows_was : (f : LFlow) → ((u : UnitId) × Among f (rows_of before u)) ↔ IsLogicalFlow before f
  flows_was f = (λ s. flow_of before valid s.0 f s.1, λ h. of_flow before valid f h)

  flows_is : (f : LFlow) → ((u : UnitId) × Among f (rows_of after u)) ↔ IsLogicalFlow after f
  flows_is f = (λ s. flow_of after next_valid s.0 f s.1, λ h. of_flow after next_valid f h)

  pairs_was : (p : LFlow × Name) → ((u : UnitId) × Among p (pairs_of_unit before u)) ↔ IsPairOf before p
  pairs_was p = (λ s. pair_of before valid s.0 p s.1, λ h. of_pair before valid p h)

  pairs_is : (p : LFlow × Name) → ((u : UnitId) × Among p (pairs_of_unit after u)) ↔ IsPairOf after p
  pairs_is p = (λ s. pair_of after next_valid s.0 p s.1, λ h. of_pair after next_valid p h)

  module _ (first between units : List UnitId) (one : HaveJoined (units_of before) first between) (two : HaveJoined (units_of after) between units) where
    with_rows_there : (u : UnitId) (f : LFlow) → (Among f (rows_of before u) ⊎ Among f (rows_of after u)) → Among u units
    with_rows_there u f (inl m) = (two u).1 (inl ((one u).1 (inr (with_rows before valid u f m).there)))
    with_rows_there u f (inr m) = (two u).1 (inr (with_rows after next_valid u f m).there)

    with_pairs_there : (u : UnitId) (p : LFlow × Name) → (Among p (pairs_of_unit before u) ⊎ Among p (pairs_of_unit after u)) → Among u units
    with_pairs_there u p (inl m) = with_rows_there u p.0 (inl (paired_row before valid u p m).2)
    with_pairs_there u p (inr m) = with_rows_there u p.0 (inr (paired_row after next_valid u p m).2)

    pub is_plan : (old new : North) (plan : Planned) (rows : List (UnitId × List LFlow)) (pairs : List (UnitId × List (LFlow × Name)))
        → rows ≡ with_each (rows_of after) units → pairs ≡ with_each (pairs_of_unit after) units
        → AreSame same_flow rows plan.flows.changes → AreSame same_pair pairs plan.pairs.changes
        → IsKept same_flow unit_order old.flows.origins new.flows.origins → IsKept same_pair unit_order old.pairs.origins new.pairs.origins
        → IsPlannedOn new plan → StandsFor before old → IsNorthPlan before after new plan
    is_plan old new plan rows pairs rows_are pairs_are alike alike_too kept kept_too ready stands =
        let leads = stores.leads same_flow exact_flow exact_unit (rows_of before) (rows_of after) units (stores.covering (rows_of before) (rows_of after) units with_rows_there) old.flows.origins new.flows.origins rows plan.flows.changes rows_are alike kept stands.rows in
        let leads_too = stores.leads same_pair exact_pair exact_unit (pairs_of_unit before) (pairs_of_unit after) units (stores.covering (pairs_of_unit before) (pairs_of_unit after) units with_pairs_there) old.pairs.origins new.pairs.origins pairs plan.pairs.changes pairs_are alike_too kept_too stands.pairs in
        let held = kept_stands exact_flow exact_pair old new kept kept_too before stands in
        record {
          ready = ready;
          rows = leads;
          rows_paired = leads_too;
          flows = stores.change same_flow exact_flow (rows_of before) (rows_of after) (flows_of unit_order new.flows.origins) (flows_after unit_order new.flows.origins plan.flows.changes)
              (IsLogicalFlow before) (IsLogicalFlow after) plan.flows.delta held.rows leads flows_was flows_is ready.flows.delta;
          pairs = stores.change same_pair exact_pair (pairs_of_unit before) (pairs_of_unit after) (flows_of unit_order new.pairs.origins) (flows_after unit_order new.pairs.origins plan.pairs.changes)
              (IsPairOf before) (IsPairOf after) plan.pairs.delta held.pairs leads_too pairs_was pairs_is ready.pairs.delta;
        }

-- ---- what is listed

module _ (net : Network) (valid : IsValid net) where
  pub flows_listed : ((f g : LFlow) → (same_flow f g ≡ true) ↔ (f ≡ g)) → (origins : List (UnitId × List LFlow)) (keys : List LFlow) → HaveSame (flows_of unit_order origins) (rows_of net)
      → IsDistinct same_flow keys → ((f : LFlow) → (is_member same_flow keys f ≡ true) ↔ IsHeld same_flow (flows_of unit_order origins) f) → ListsEach (IsLogicalFlow net) keys
  flows_listed exact origins keys have = stores.listed same_flow exact (rows_of net) (flows_of unit_order origins) (IsLogicalFlow net) keys have (λ f. (λ s. flow_of net valid s.0 f s.1, λ h. of_flow net valid f h))

  pub pairs_listed : ((p q : LFlow × Name) → (same_pair p q ≡ true) ↔ (p ≡ q)) → (origins : List (UnitId × List (LFlow × Name))) (keys : List (LFlow × Name)) → HaveSame (flows_of unit_order origins) (pairs_of_unit net)
      → IsDistinct same_pair keys → ((p : LFlow × Name) → (is_member same_pair keys p ≡ true) ↔ IsHeld same_pair (flows_of unit_order origins) p) → ListsEach (IsPairOf net) keys
  pairs_listed exact origins keys have = stores.listed same_pair exact (pairs_of_unit net) (flows_of unit_order origins) (IsPairOf net) keys have (λ p. (λ s. pair_of net valid s.0 p s.1, λ h. of_pair net valid p h))
