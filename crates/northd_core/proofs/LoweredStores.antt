-- A plan leads from the flows that are held to those of the records after an edit.
use Rattle.std.specs.Prelude.{◌≡◌, ◌↔◌, ◌⊎◌, true, List, [], refl}
use Rattle.std.specs.BTreeMap.{is_at}
use Rattle.std.specs.List.{IsDistinct}
use Rattle.std.specs.Set.{is_member}
use Rattle.std.proofs.Common.{inl, inr}
use Rattle.ovn_base.specs.lists.Among.{Among}
use Rattle.flow_refs.specs.Origins.{flows_of, flows_after, IsHeld}
use Rattle.flow_refs.specs.Store.{Store, Prepared, AreSame, IsKept, IsPreparedFor}
use Rattle.flow_table.specs.declared.flow.Flow.{Flow}
use Rattle.tunnel_keys.specs.Keys.{Keys}
use Rattle.nb_records.specs.Network.{empty_network}
use Rattle.logical_flows.specs.declared.unit.UnitId.{UnitId}
use Rattle.stage_rows.specs.Units.{units_of}
use Rattle.northd_core.specs.Held.{HaveSame, unit_order}
use Rattle.northd_core.specs.Listing.{HaveJoined, with_each}
use Rattle.northd_core.specs.Lowering.{Lowering, CanCompile, HaveLowered, IsLoweredIn, IsLoweredPlan, LeavesLowered, StayLowered, lowered_of, same_lowered}
use Rattle.northd_core.specs.Plans.{ListsEach}
use Rattle.northd_core.proofs.LoweredRows.{lowered_in, no_flows, of_lowered, with_flows}
use Rattle.northd_core.proofs.NorthPlans.{after_kept, none_held}
use Rattle.northd_core.proofs.Stores as stores

-- ---- the network without records

pub none_lowered : (held : Store Flow UnitId) → held.origins ≡ [] → (keys : Keys) → HaveLowered (record { net = empty_network; keys = keys }) held
none_lowered held none keys = none_held held.origins (lowered_of (record { net = empty_network; keys = keys })) none (no_flows keys)

-- ---- what is held

pub left_itself : (held : Store Flow UnitId) → LeavesLowered held held
left_itself held = record { stands = λ l h. h; ready = λ plan h. h; planned = λ before after plan h. h; shown = refl }

-- a flow that some unit has is one of a row, and the other way round
some_lowered : (l : Lowering) → CanCompile l → (f : Flow) → ((u : UnitId) × Among f (lowered_of l u)) ↔ IsLoweredIn l f
some_lowered l can f = (λ s. lowered_in l can s.0 f s.1, λ h. of_lowered l f h)

module _ (exact : (f g : Flow) → (same_lowered f g ≡ true) ↔ (f ≡ g)) where
  -- what the store says of what it leaves
  pub is_left : (old new : Store Flow UnitId) → IsKept same_lowered unit_order old.origins new.origins
      → ((p : Prepared Flow UnitId) → IsPreparedFor same_lowered unit_order old p → IsPreparedFor same_lowered unit_order new p) → new.counts ≡ old.counts → LeavesLowered old new
  is_left old new kept stays shown = record {
    stands = λ l h. stores.stays same_lowered exact old.origins new.origins kept (lowered_of l) h;
    ready = stays;
    planned = λ before after plan h. record {
      ready = stays plan h.ready;
      leads = stores.same_by (flows_after unit_order new.origins plan.changes) (flows_after unit_order old.origins plan.changes) (lowered_of after) (after_kept same_lowered old.origins new.origins plan.changes kept) h.leads;
      change = h.change;
    };
    shown = shown;
  }

  -- the flows that are listed
  pub flows_listed : (l : Lowering) → CanCompile l → (origins : List (UnitId × List Flow)) (listed : List Flow) → HaveSame (flows_of unit_order origins) (lowered_of l)
      → IsDistinct same_lowered listed → ((f : Flow) → (is_member same_lowered listed f ≡ true) ↔ IsHeld same_lowered (flows_of unit_order origins) f) → ListsEach (IsLoweredIn l) listed
  flows_listed l can origins listed have = stores.listed same_lowered exact (lowered_of l) (flows_of unit_order origins) (IsLoweredIn l) listed have (some_lowered l can)

  -- ---- plans

  module _ (exact_unit : (u v : UnitId) → (is_at (unit_order u) v ≡ true) ↔ (u ≡ v)) (after : Lowering) (can_after : CanCompile after) (units : List UnitId)
      (old new : Store Flow UnitId) (plan : Prepared Flow UnitId) (given : List (UnitId × List Flow)) (is_given : given ≡ with_each (lowered_of after) units)
      (alike : AreSame same_lowered given plan.changes) (kept : IsKept same_lowered unit_order old.origins new.origins) (ready : IsPreparedFor same_lowered unit_order new plan) where
    pub is_plan : (before : Lowering) → CanCompile before → HaveLowered before old → StayLowered before after units → IsLoweredPlan before after new plan
    is_plan before can had others =
        let leads = stores.leads same_lowered exact exact_unit (lowered_of before) (lowered_of after) units others old.origins new.origins given plan.changes is_given alike kept had in
        let held = stores.stays same_lowered exact old.origins new.origins kept (lowered_of before) had in
        record {
          ready = ready;
          leads = leads;
          change = stores.change same_lowered exact (lowered_of before) (lowered_of after) (flows_of unit_order new.origins) (flows_after unit_order new.origins plan.changes)
              (IsLoweredIn before) (IsLoweredIn after) plan.delta held leads (some_lowered before can) (some_lowered after can_after) ready.delta;
        }

-- where the units of both records have joined, nobody else has flows
pub others_stay : (before after : Lowering) → CanCompile before → CanCompile after → (first between units : List UnitId) → HaveJoined (units_of before.net) first between → HaveJoined (units_of after.net) between units
    → StayLowered before after units
others_stay before after can can_after first between units one two = stores.covering (lowered_of before) (lowered_of after) units have_joined
  where
    -- a unit that has flows before or after has joined
    have_joined : (u : UnitId) (f : Flow) → (Among f (lowered_of before u) ⊎ Among f (lowered_of after u)) → Among u units
    have_joined u f (inl m) = (two u).1 (inl ((one u).1 (inr (with_flows before can u f m))))
    have_joined u f (inr m) = (two u).1 (inr (with_flows after can_after u f m))
