-- The members of address sets and port groups, and those that differ.
use Rattle.std.specs.Prelude.{◌≢◌, ◌↔◌, List, [], map, unwrap_or, option_map}
use Rattle.std.specs.Cmp.Lexicographic.{slice_cmp}
use Rattle.std.specs.List.Sorted.{IsStrictlySortedBy}
use Rattle.std.specs.Ordering.{nat_cmp}
use Rattle.ovn_base.specs.declared.name.Name.{Name}
use Rattle.ovn_base.specs.lists.Among.{Among}
use Rattle.ovn_base.specs.names.ByName.{at}
use Rattle.match_cubes.specs.declared.sets.Sets.{Sets}
use Rattle.nb_records.specs.Network.{Network}

-- the sets and groups of the records, each with its members
abbrev pub sets_of : Network → Sets
sets_of net = record { addresses = map (λ e. (e.0, e.1.addresses)) net.address_sets; groups = map (λ e. (e.0, e.1.ports)) net.port_groups }

-- the names are exactly those at which the members differ, in order, each once
pub record AreDiffering {X : Type 0} (old new : Name → List X) (names : List Name) : Type 0 where
  pub exact : (name : Name) → Among name names ↔ (old name ≢ new name)
  pub in_order : IsStrictlySortedBy (slice_cmp nat_cmp) names

-- the members of what stands at the name; none where nothing does
abbrev pub members_there : {V X : Type 0} → (V → List X) → List (Name × V) → Name → List X
members_there members entries name = unwrap_or (option_map members (at entries name)) []

-- an entry of the name has other members than what stands there among the others
abbrev pub HasOther : {V X : Type 0} → (V → List X) → List (Name × V) → List (Name × V) → Name → Type 0
HasOther members others entries name = (value : _) × Among (name, value) entries × (members_there members others name ≢ members value)
