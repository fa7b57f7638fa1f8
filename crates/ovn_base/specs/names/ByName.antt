-- Entries in order of name.
use Rattle.std.specs.Prelude.{List, [], ◌∷◌, Option}
use Rattle.std.specs.Map.{keys_of, lookup}
use Rattle.std.specs.List.Sorted.{IsStrictlySortedBy}
use Rattle.std.specs.BTreeMap.{insert_entry, is_at}
use Rattle.std.specs.Cmp.Lexicographic.{slice_cmp}
use Rattle.std.specs.Ordering.{nat_cmp}
use Rattle.ovn_base.specs.declared.name.Name.{Name}

-- the value at the name
abbrev pub at : {X : Type 0} → List (Name × X) → Name → Option X
at entries name = lookup (is_at (slice_cmp nat_cmp name)) entries

-- the entries with the value at the name, in order
abbrev pub put : {X : Type 0} → List (Name × X) → Name → X → List (Name × X)
put entries name value = insert_entry (slice_cmp nat_cmp) entries name value

-- the entries with each of the others put in turn
abbrev pub put_all : {X : Type 0} → List (Name × X) → List (Name × X) → List (Name × X)
put_all entries [] = entries
put_all entries (e ∷ es) = put_all (put entries e.0 e.1) es

-- the entries in order of name
abbrev pub in_order : {X : Type 0} → List (Name × X) → List (Name × X)
in_order es = put_all [] es

-- the names ascend, so that each stands once
abbrev pub IsByName : {X : Type 0} → List (Name × X) → Type 0
IsByName entries = IsStrictlySortedBy (slice_cmp nat_cmp) (keys_of entries)
