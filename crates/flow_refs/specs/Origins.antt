-- Which origins have which flows.
use Rattle.std.specs.Prelude.{◌≡◌, ◌↔◌, Bool, true, List, [], unwrap_or}
use Rattle.std.specs.BTreeMap.{is_at}
use Rattle.std.specs.List.{IsDistinct}
use Rattle.std.specs.Map.{keys_of, lookup}
use Rattle.std.specs.Ordering.{eq_by_cmp}
use Rattle.std.specs.Set.{is_member}
use Rattle.std.specs.declared.cmp.Ordering.{Ordering}
use Rattle.ovn_base.specs.declared.delta.Delta.{Delta}

module _ {F O : Type 0} (cmp : O → O → Ordering) where
  -- the flows of an origin; one that isn't listed has none
  abbrev pub flows_of : List (O × List F) → O → List F
  flows_of origins o = unwrap_or (lookup (is_at (cmp o)) origins) []

  -- its flows after the changes: those that it is given there, or else those that it had
  abbrev pub flows_after : List (O × List F) → List (O × List F) → O → List F
  flows_after origins changes o = unwrap_or (lookup (is_at (cmp o)) changes) (flows_of origins o)

  -- no origin stands twice
  abbrev pub IsEachOnce : List (O × List F) → Type 0
  IsEachOnce origins = IsDistinct (eq_by_cmp cmp) (keys_of origins)

module _ {F O : Type 0} (eq : F → F → Bool) where
  -- some origin has the flow
  pub record IsHeld (flows : O → List F) (flow : F) : Type 0 where
    pub origin : O
    pub has : is_member eq (flows origin) flow ≡ true

  -- what comes is exactly what was held by no origin and is by some, what goes the other way round, each flow once
  pub record IsDifference (before after : O → List F) (delta : Delta F) : Type 0 where
    pub come : (flow : F) → (is_member eq delta.added flow ≡ true) ↔ ((¬ IsHeld before flow) × IsHeld after flow)
    pub go : (flow : F) → (is_member eq delta.removed flow ≡ true) ↔ (IsHeld before flow × (¬ IsHeld after flow))
    pub come_once : IsDistinct eq delta.added
    pub go_once : IsDistinct eq delta.removed
