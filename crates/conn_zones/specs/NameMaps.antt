-- Where a name is among entries in order of name, and where it would go.
use Rattle.std.specs.Prelude.{◌≡◌, ◌≤◌, ◌<◌, ℕ, List, length, take, drop}
use Rattle.std.specs.Cmp.Lexicographic.{slice_cmp}
use Rattle.std.specs.List.{AllByRecursion, HoldsAt}
use Rattle.std.specs.Ordering.{nat_cmp}
use Rattle.std.specs.declared.cmp.Ordering.TheVariants.{Less, Greater}
use Rattle.ovn_base.specs.declared.name.Name.{Name}

-- the names before the index are below the name
abbrev pub AreBelow : {X : Type 0} → List (Name × X) → Name → ℕ → Type 0
AreBelow entries name index = AllByRecursion (λ e. slice_cmp nat_cmp name e.0 ≡ Greater) (take index entries)

-- the name is at the index
pub record IsPlaceAt {X : Type 0} (entries : List (Name × X)) (name : Name) (index : ℕ) : Type 0 where
  pub in_range : index < length entries
  pub below : AreBelow entries name index
  pub here : HoldsAt (λ e. e.0 ≡ name) entries index

-- it isn't there, and would go to the index
pub record IsGapAt {X : Type 0} (entries : List (Name × X)) (name : Name) (index : ℕ) : Type 0 where
  pub in_range : index ≤ length entries
  pub below : AreBelow entries name index
  pub above : AllByRecursion (λ e. slice_cmp nat_cmp name e.0 ≡ Less) (drop index entries)
